use Rattle.std.proofs.Common.{◌≡◌, ◌⊎◌, inl, inr, ℕ, ◌+◌, ◌-◌, ◌^◌, ◌++◌, length, min, arith, ◌∙◌, refl}
use Rattle.std.proofs.lemmas.Bool.{cases_lt}
use Rattle.std.specs.Str.Parse.{digits_value}
use Rattle.osm_model.proofs.shared.Digits.{over, under}
use Rattle.osm_model.proofs.Decimals.{power_some}
use Rattle.osm_model.proofs.EdgeSizes.{around, far}
use Rattle.osm_model.proofs.edge.sizes_of.Goals as goal

seven : (n m k : ℕ) → n ≡ min k 7 → m + n ≡ k → (m ≡ 0) ⊎ (n ≡ 7)
seven n m k e f = elim (cases_lt k 7) [ inl less ↦ inl (omega arith) | inr more ↦ inr (omega arith) ]

pub returns-then-are_zeros-clause-small : goal.returns-then-are_zeros-clause-small
returns-then-are_zeros-clause-small c = λ low.
    let whole = c.args.whole.now in
    let first = c.split_at.result.0.now in
    let rest = c.split_at.result.1.now in
    let exact = under 10000000000 (digits_value 10 (whole ++ first)) (10 ^ (7 - length first)) 1800000000 (power_some (7 - length first)) (omega arith) (rw c.units_of-floor.ensures.value at low) in
    around whole c.args.fraction.now first rest c.split_at.ensures.by_index.0 c.requires.fraction (omega (arith, c.split_at.ensures.front_len)) (seven _ _ _ (c.split_at.ensures.front_len ∙ c.min.ensures) (omega (arith, c.split_at.ensures.back_len, c.split_at.ensures.front_len)))
    c.units_of-floor.result c.units_of-floor.result (c.units_of-floor.ensures.value ∙ exact) (λ none. refl) (λ some. absurd (omega (arith, some, c.are_zeros.ensures.0 c.if-are_zeros.true)))

pub returns-then-are_zeros-clause-large : goal.returns-then-are_zeros-clause-large
returns-then-are_zeros-clause-large c = λ more.
    let whole = c.args.whole.now in
    let first = c.split_at.result.0.now in
    let rest = c.split_at.result.1.now in
    far whole c.args.fraction.now first rest c.split_at.ensures.by_index.0 c.requires.fraction (omega (arith, c.split_at.ensures.front_len)) (seven _ _ _ (c.split_at.ensures.front_len ∙ c.min.ensures) (omega (arith, c.split_at.ensures.back_len, c.split_at.ensures.front_len)))
    1800000000 (over 10000000000 (digits_value 10 (whole ++ first)) (10 ^ (7 - length first)) 1800000000 (rw c.units_of-floor.ensures.value at more))

pub returns-else-are_zeros-clause-small : goal.returns-else-are_zeros-clause-small
returns-else-are_zeros-clause-small c = λ low.
    let whole = c.args.whole.now in
    let first = c.split_at.result.0.now in
    let rest = c.split_at.result.1.now in
    let exact = under 10000000000 (digits_value 10 (whole ++ first)) (10 ^ (7 - length first)) 1800000000 (power_some (7 - length first)) (omega arith) (rw c.units_of-floor.ensures.value at low) in
    around whole c.args.fraction.now first rest c.split_at.ensures.by_index.0 c.requires.fraction (omega (arith, c.split_at.ensures.front_len)) (seven _ _ _ (c.split_at.ensures.front_len ∙ c.min.ensures) (omega (arith, c.split_at.ensures.back_len, c.split_at.ensures.front_len)))
    c.units_of-floor.result (c.units_of-floor.result + 1) (c.units_of-floor.ensures.value ∙ exact) (λ none. absurd (let yes = c.are_zeros.ensures.1 none in cc)) (λ some. refl)

pub returns-else-are_zeros-clause-large : goal.returns-else-are_zeros-clause-large
returns-else-are_zeros-clause-large c = λ more.
    let whole = c.args.whole.now in
    let first = c.split_at.result.0.now in
    let rest = c.split_at.result.1.now in
    far whole c.args.fraction.now first rest c.split_at.ensures.by_index.0 c.requires.fraction (omega (arith, c.split_at.ensures.front_len)) (seven _ _ _ (c.split_at.ensures.front_len ∙ c.min.ensures) (omega (arith, c.split_at.ensures.back_len, c.split_at.ensures.front_len)))
    1800000000 (over 10000000000 (digits_value 10 (whole ++ first)) (10 ^ (7 - length first)) 1800000000 (rw c.units_of-floor.ensures.value at more))
