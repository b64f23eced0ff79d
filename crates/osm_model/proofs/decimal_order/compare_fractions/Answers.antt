use Rattle.std.proofs.Common.{arith, sym, ◌∙◌}
use Rattle.std.specs.declared.cmp.Ordering.TheVariants.{Equal}
use Rattle.std.specs.Cmp.{nat_cmp_is}
use Rattle.osm_model.proofs.Leading.{decided, alike, same_order}
use Rattle.osm_model.proofs.EdgeOrder.{unequal}
use Rattle.osm_model.proofs.decimal_order.compare_fractions.Goals as goal

pub returns-then-is_ne : goal.returns-then-is_ne
returns-then-is_ne c =
    let first = c.args.first.now in
    let second = c.args.second.now in
    let place = c.loop-place.place in
    let same = c.loop-place.invariant in
    same_order c.digit_at.result c.digit_at-in-loop-place.result _ _ c.cmp-order.result c.cmp-order.ensures
    (λ less. decided first second place c.requires.first (omega (arith, c.loop-place-test.true, c.max-place-end.ensures)) same (omega (arith, less, c.digit_at.ensures, c.digit_at-in-loop-place.ensures)))
    (λ equal. absurd (unequal _ _ c.cmp-order.result c.cmp-order.ensures (sym c.is_ne.ensures ∙ c.if-is_ne.true) equal))
    (λ greater. decided second first place c.requires.second (omega (arith, c.loop-place-test.true, c.max-place-end.ensures)) (sym same) (omega (arith, greater, c.digit_at.ensures, c.digit_at-in-loop-place.ensures)))

pub returns : goal.returns
returns c = nat_cmp_is _ _ Equal (alike c.args.first.now c.args.second.now c.loop-place.place (omega (arith, c.loop-place-test.false, c.max-place-end.ensures)) (omega (arith, c.loop-place-test.false, c.max-place-end.ensures)) (omega (arith, c.loop-place.auto.place-end, c.max-place-end.ensures)) c.loop-place.invariant)
