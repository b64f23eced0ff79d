-- How a query statement is answered: one of its filters, the base, says which ranges of keys are read, and
-- the others, the rest, are tested on what was found.
-- Source: this project; the filters are those of the Overpass QL page of the OpenStreetMap wiki, "Filters".
use Rattle.std.specs.Prelude.{◌≡◌, ◌≢◌, ◌≤◌, ◌<◌, ◌&&◌, ℕ, Bool, true, false, IsTrue, List, [], ◌++◌, Option, None, Some, MatchOption, IsSomeAnd, if◌then◌else◌, filter, length, map, nat_le, slice_index, slice_index_or}
use Rattle.std.specs.Option.{option_to_list}
use Rattle.ql_syntax.specs.Filters.{Filter, InSet, HasKey, KeyIs, LacksKey, KeyIsNot, Ids, Within, Via}

-- a plan of a statement: what is written before its base, the base, and what is written after it; without a
-- base it is a scan
pub record Planned : Type 0 where
  pub before : List Filter
  pub base : Option Filter
  pub after : List Filter

-- the filters in written order
abbrev pub filters_in : Planned → List Filter
filters_in plan = plan.before ++ option_to_list plan.base ++ plan.after

-- those that are left to be tested
abbrev pub rest_of : Planned → List Filter
rest_of plan = plan.before ++ plan.after

-- the rank of filters that are never a base
abbrev pub never : ℕ
never = 6

-- the sorts of bases, the earliest first
abbrev pub rank_of : Filter → ℕ
rank_of (Ids ids) = 0
rank_of (InSet name) = 1
rank_of (Via path name) = 2
rank_of (KeyIs key value) = 3
rank_of (HasKey key) = 4
rank_of (Within area) = 5
rank_of (LacksKey key) = never
rank_of (KeyIsNot key value) = never

abbrev pub rank_at : List Filter → ℕ → ℕ
rank_at filters at = slice_index_or (map rank_of filters) at never

-- the first written filter of the earliest sort that is there
pub record IsFirstBase (filters : List Filter) (at : ℕ) : Type 0 where
  pub within : at < length filters
  pub is_base : rank_at filters at < never
  -- no filter is of an earlier sort
  pub earliest : (other : ℕ) → other < length filters → rank_at filters at ≤ rank_at filters other
  -- and none before it of the same one
  pub first : (other : ℕ) → other < at → rank_at filters at < rank_at filters other

-- no filter can be a base
abbrev pub IsScan : List Filter → Type 0
IsScan filters = (at : ℕ) → at < length filters → rank_at filters at ≡ never

-- what a statement with these filters is answered by
pub record IsPlan (filters : List Filter) (plan : Planned) : Type 0 where
  pub written : filters_in plan ≡ filters
  pub base : MatchOption plan.base (IsScan filters × (plan.after ≡ [])) (λ _. IsFirstBase filters (length plan.before))

-- the filters whose entries can be counted before one of them is taken: `[k=v]` and `[k]`
abbrev pub is_counted : Filter → Bool
is_counted (KeyIs key value) = true
is_counted (HasKey key) = true
is_counted (InSet name) = false
is_counted (LacksKey key) = false
is_counted (KeyIsNot key value) = false
is_counted (Ids ids) = false
is_counted (Within area) = false
is_counted (Via path name) = false

-- the rivals of a base, in written order: where it is one that is counted and not the only one, all of these
abbrev pub rivals_among : Option Filter → List Filter → List Filter
rivals_among None filters = []
rivals_among (Some base) filters = if is_counted base && nat_le 2 (length (filter is_counted filters)) then filter is_counted filters else []

abbrev pub rivals_of : Planned → List Filter
rivals_of plan = rivals_among plan.base (filters_in plan)

-- the first of the least counts
pub record IsLeastCount (counts : List ℕ) (at : ℕ) : Type 0 where
  pub within : at < length counts
  pub least : (other : ℕ) → other < length counts → slice_index counts at ≤ slice_index counts other
  pub first : (other : ℕ) → other < at → slice_index counts at < slice_index counts other

-- the plan whose base is the first rival with the least count; without rivals it stays as it is
pub record IsChosen (plan : Planned) (counts : List ℕ) (chosen : Planned) : Type 0 where
  pub written : filters_in chosen ≡ filters_in plan
  pub same : rivals_of plan ≡ [] → chosen ≡ plan
  -- the base is a rival, and as many rivals are written before it as counts stand before the least one
  pub least : rivals_of plan ≢ [] → IsSomeAnd chosen.base (λ base. IsTrue (is_counted base) × IsLeastCount counts (length (filter is_counted chosen.before)))
