use Rattle.std.proofs.Common.{◌≡◌, arith, sym, ◌∙◌}
use Rattle.osm_model.specs.DecimalParts.{decimal_of}
use Rattle.osm_model.proofs.Leading.{same_order}
use Rattle.osm_model.proofs.EdgeOrder.{all_digits, by_wholes, by_fractions, equal_of, unequal}
use Rattle.osm_model.proofs.decimal_order.compare_sizes.Goals as goal

pub returns-then-is_ne : goal.returns-then-is_ne
returns-then-is_ne c =
    same_order c.number_up_to_cap.result c.number_up_to_cap-2.result _ _ c.cmp-order.result c.cmp-order.ensures
    (λ less. by_wholes (decimal_of c.args.first) (decimal_of c.args.second) c.requires.first (omega (arith, less, c.number_up_to_cap.ensures, c.number_up_to_cap-2.ensures, c.requires.few_first, c.requires.few_second)))
    (λ equal. absurd (unequal _ _ c.cmp-order.result c.cmp-order.ensures (sym c.is_ne.ensures ∙ c.if-is_ne.true) equal))
    (λ greater. by_wholes (decimal_of c.args.second) (decimal_of c.args.first) c.requires.second (omega (arith, greater, c.number_up_to_cap.ensures, c.number_up_to_cap-2.ensures, c.requires.few_first, c.requires.few_second)))

pub compare_fractions-requires-clause-first : goal.compare_fractions-requires-clause-first
compare_fractions-requires-clause-first c = rw c.decimals.ensures (all_digits _ c.requires.first.fraction)

pub compare_fractions-requires-clause-second : goal.compare_fractions-requires-clause-second
compare_fractions-requires-clause-second c = rw c.decimals-2.ensures (all_digits _ c.requires.second.fraction)

pub returns : goal.returns
returns c =
    let same : c.number_up_to_cap.result ≡ c.number_up_to_cap-2.result = equal_of _ _ c.cmp-order.result c.cmp-order.ensures (sym c.is_ne.ensures ∙ c.if-is_ne.false) in
    by_fractions (decimal_of c.args.first) (decimal_of c.args.second) c.compare_fractions.result (omega (arith, same, c.number_up_to_cap.ensures, c.number_up_to_cap-2.ensures, c.requires.few_first, c.requires.few_second))
    (rw (c.decimals.ensures, c.decimals-2.ensures) at c.compare_fractions.ensures)
