-- The ranks of the code's sorts of bases.
-- Source: this project.
use Rattle.std.specs.Prelude.{ℕ}
use Rattle.ql_plan.specs.declared.base_sort.BaseSort.{BaseSort}
use Rattle.ql_plan.specs.declared.base_sort.BaseSort.TheVariants.{Ids, Set, Path, Tag, Key, Area, Never}

abbrev pub rank : BaseSort → ℕ
rank Ids = 0
rank Set = 1
rank Path = 2
rank Tag = 3
rank Key = 4
rank Area = 5
rank Never = 6
