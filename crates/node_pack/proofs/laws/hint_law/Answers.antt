use Rattle.std.proofs.Common.{◌≡◌, ◌≢◌, ◌<◌, ℕ, List, [], ◌∷◌, ◌++◌, Option, Some, None, true, length, inl, inr, refl, ap, ◌∙◌, arith, length-append}
use Rattle.std.proofs.lemmas.List.{append-nil}
use Rattle.std.specs.Prelude.{IfSome}
use Rattle.tree_walk.specs.Given.{GoesOnAbove}
use Rattle.tree_walk.specs.Ranges.{Range}
use Rattle.node_pack.specs.Hints.{GoesOnFor}
use Rattle.node_pack.proofs.laws.hint_law.Goals as goal

-- what another string begins is longer
longer : (hi bound rest : List ℕ) → bound ≡ hi ++ rest → bound ≢ hi → length hi < length bound
longer hi bound [] is other = absurd (other (is ∙ append-nil hi))
longer hi bound (x ∷ rest) is other = omega (arith, ap (λ (l : List ℕ). length l) is, length-append hi (x ∷ rest))

goes_on : (range : Range) (left : Option (List ℕ)) → GoesOnAbove range left → IfSome left (λ bound. bound ≢ range.hi) → GoesOnFor range.hi left
goes_on range None above other = tt
goes_on range (Some bound) (inl below) other = inl below
goes_on range (Some bound) (inr under) other = inr (under.1, longer range.hi bound under.1.0 under.1.1 other)

goes_on_under : (lo hi : List ℕ) (left : Option (List ℕ)) → GoesOnFor hi left → GoesOnAbove (record { lo = lo; hi = hi; under = true }) left
goes_on_under lo hi None above = tt
goes_on_under lo hi (Some bound) (inl below) = inl below
goes_on_under lo hi (Some bound) (inr begun) = inr (refl, begun.0)

pub returns-clause-entered : goal.returns-clause-entered
returns-clause-entered c = λ top range child entered other. record { low = entered.low; high = goes_on range child.0 entered.high other }

pub returns-clause-led : goal.returns-clause-led
returns-clause-led c = λ hint child led. record { low = led.low; high = goes_on_under hint.lo hint.hi child.0 led.high; opened = λ never. never }
