-- The earliest of the filters that were seen.
use Rattle.std.proofs.Common.{◌≡◌, ◌<◌, ◌≤◌, ℕ, zero, suc, ◌+◌, List, [], ◌∷◌, Option, None, Some, MatchOption, length, refl, arith, below_more}
use Rattle.ql_syntax.specs.Filters.{Filter, InSet, HasKey, KeyIs, LacksKey, KeyIsNot, Ids, Within, Via}
use Rattle.ql_plan.specs.Plans.{IsFirstBase, IsScan, never, rank_at, rank_of}

rank_of_small : (one : Filter) → rank_of one ≤ never
rank_of_small (Ids ids) = omega arith
rank_of_small (InSet name) = omega arith
rank_of_small (Via path name) = omega arith
rank_of_small (KeyIs key value) = omega arith
rank_of_small (HasKey key) = omega arith
rank_of_small (Within area) = omega arith
rank_of_small (LacksKey key) = omega arith
rank_of_small (KeyIsNot key value) = omega arith

rank_small : (filters : List Filter) (at : ℕ) → rank_at filters at ≤ never
rank_small [] at = omega arith
rank_small (one ∷ filters) zero = rank_of_small one
rank_small (one ∷ filters) (suc at) = rank_small filters at

pub record IsBaseSoFar (filters : List Filter) (seen earliest : ℕ) (base : Option ℕ) : Type 0 where
  pub small : earliest ≤ never
  pub least : (other : ℕ) → other < seen → earliest ≤ rank_at filters other
  pub found : MatchOption base (earliest ≡ never) (λ at. (at < seen) × (rank_at filters at ≡ earliest) × (earliest < never) × ((other : ℕ) → other < at → earliest < rank_at filters other))

pub base_start : (filters : List Filter) → IsBaseSoFar filters 0 never None
base_start filters = record {
  small = omega arith;
  least = λ other lt. omega (arith, lt);
  found = refl;
}

pub base_takes : {filters : List Filter} {seen earliest : ℕ} {base : Option ℕ} (rank : ℕ) → rank_at filters seen ≡ rank → rank < earliest → IsBaseSoFar filters seen earliest base → IsBaseSoFar filters (seen + 1) rank (Some seen)
base_takes rank is less so = record {
  small = omega (arith, so.small);
  least = below_more _ _ (λ other lt. omega (arith, so.least other lt)) (omega arith);
  found = (omega arith, is, omega (arith, so.small), λ other lt. omega (arith, so.least other lt));
}

pub base_keeps : {filters : List Filter} {seen earliest : ℕ} {base : Option ℕ} (rank : ℕ) → rank_at filters seen ≡ rank → earliest ≤ rank → IsBaseSoFar filters seen earliest base → IsBaseSoFar filters (seen + 1) earliest base
base_keeps {base = None} rank is more so = record {
  small = so.small;
  least = below_more _ _ so.least (omega arith);
  found = so.found;
}
base_keeps {base = Some at} rank is more so = record {
  small = so.small;
  least = below_more _ _ so.least (omega arith);
  found = (omega (arith, so.found.0), so.found.1, so.found.2, so.found.3);
}

pub base_all : {filters : List Filter} {seen earliest : ℕ} {base : Option ℕ} → seen ≡ length filters → IsBaseSoFar filters seen earliest base → MatchOption base (IsScan filters) (IsFirstBase filters)
base_all {filters = filters} {base = None} all so = λ at lt. omega (arith, so.found, so.least at (omega arith), rank_small filters at)
base_all {base = Some at} all so = record {
  within = omega (arith, so.found.0);
  is_base = omega (arith, so.found.1, so.found.2);
  earliest = λ other lt. omega (arith, so.found.1, so.least other (omega arith));
  first = λ other lt. omega (arith, so.found.1, so.found.3 other lt);
}
