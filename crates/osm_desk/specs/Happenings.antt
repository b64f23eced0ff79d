-- What happens at a desk, without tables, gates or snapshots.
-- Source: this project.
use Rattle.std.specs.Prelude.{ℕ, List, Result}
use Rattle.osm_keys.specs.Publications.{Publication}
use Rattle.osm_index.specs.declared.apply_fault.ApplyFault.{ApplyFault}

-- the connection of this number is opened, a piece of its bytes arrives, or it ends; or changes are published, and this
-- is what they make of what is in force
pub data Happening : Type 0 where
  opened : ℕ → Happening
  arrived : ℕ → List ℕ → Happening
  ended : ℕ → Happening
  published : Result Publication ApplyFault → Happening
