-- Sets of references, as rising lists.
-- Source: this project.
use Rattle.std.specs.Prelude.{List, ◌↔◌}
use Rattle.std.specs.List.{Contains}
use Rattle.std.specs.List.Sorted.{IsStrictlySortedBy}
use Rattle.osm_model.specs.Elements.{ref_cmp}
use Rattle.osm_model.specs.declared.reference.Ref.{Ref}

-- the list is the set of the references of which this is so: each once, and they rise
pub record IsSetOf (refs : List Ref) (P : Ref → Type 0) : Type 0 where
  pub rising : IsStrictlySortedBy ref_cmp refs
  pub members : (r : Ref) → Contains refs r ↔ P r
