-- A plan as the code has it: the filters and the place of the base.
-- Source: this project.
use Rattle.std.specs.Prelude.{ℕ, ◌+◌, [], List, Option, None, Some, drop, take}
use Rattle.std.specs.List.{slice_get}
use Rattle.ql_syntax.specs.Filters.{Filter}
use Rattle.ql_plan.specs.Plans.{Planned}

abbrev pub parted : List Filter → Option ℕ → Planned
parted filters None = record { before = filters; base = None; after = [] }
parted filters (Some at) = record { before = take at filters; base = slice_get filters at; after = drop (at + 1) filters }
