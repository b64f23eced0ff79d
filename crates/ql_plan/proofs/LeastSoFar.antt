-- The least of the counts that were seen.
use Rattle.std.proofs.Common.{◌≡◌, ◌<◌, ◌≤◌, ℕ, ◌+◌, List, length, get_or, arith, below_more}
use Rattle.ql_plan.specs.Plans.{IsLeastCount}

pub record IsLeastSoFar (counts : List ℕ) (seen least fewest : ℕ) : Type 0 where
  pub within : least < length counts
  pub fewest_is : get_or counts least 0 ≡ fewest
  pub least_is : (other : ℕ) → other < seen → fewest ≤ get_or counts other 0
  pub first : (other : ℕ) → other < least → fewest < get_or counts other 0

pub least_start : (counts : List ℕ) (fewest : ℕ) → 0 < length counts → get_or counts 0 0 ≡ fewest → IsLeastSoFar counts 0 0 fewest
least_start counts fewest some is = record {
  within = some;
  fewest_is = is;
  least_is = λ other lt. omega (arith, lt);
  first = λ other lt. omega (arith, lt);
}

pub least_takes : {counts : List ℕ} {seen least fewest : ℕ} (count : ℕ) → seen < length counts → get_or counts seen 0 ≡ count → count < fewest → IsLeastSoFar counts seen least fewest → IsLeastSoFar counts (seen + 1) seen count
least_takes count within is less so = record {
  within = within;
  fewest_is = is;
  least_is = below_more _ _ (λ other lt. omega (arith, so.least_is other lt)) (omega arith);
  first = λ other lt. omega (arith, so.least_is other lt);
}

pub least_keeps : {counts : List ℕ} {seen least fewest : ℕ} (count : ℕ) → get_or counts seen 0 ≡ count → fewest ≤ count → IsLeastSoFar counts seen least fewest → IsLeastSoFar counts (seen + 1) least fewest
least_keeps count is more so = record {
  within = so.within;
  fewest_is = so.fewest_is;
  least_is = below_more _ _ so.least_is (omega arith);
  first = so.first;
}

pub least_all : {counts : List ℕ} {seen least fewest : ℕ} → length counts ≤ seen → IsLeastSoFar counts seen least fewest → IsLeastCount counts least
least_all all so = record {
  within = so.within;
  least = λ other lt. omega (arith, so.fewest_is, so.least_is other (omega arith));
  first = λ other lt. omega (arith, so.fewest_is, so.first other lt);
}
