-- Places of filters that are counted.
-- Source: this project.
use Rattle.std.specs.Prelude.{◌≡◌, ◌<◌, ℕ, IsTrue, List, false, filter, length, map, slice_index_or, take}
use Rattle.ql_syntax.specs.Filters.{Filter}
use Rattle.ql_plan.specs.Plans.{is_counted}

-- the filter there is counted, and so many before it
pub record IsCountedPlace (filters : List Filter) (others : ℕ) (at : ℕ) : Type 0 where
  pub within : at < length filters
  pub counted : IsTrue (slice_index_or (map is_counted filters) at false)
  pub before : length (filter is_counted (take at filters)) ≡ others
