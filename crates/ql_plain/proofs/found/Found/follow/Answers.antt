use Rattle.std.proofs.Common.{◌≡◌, get_or, pos, refl, ◌∙◌, arith}
use Rattle.std.proofs.lemmas.List.{get_or_default}
use Rattle.osm_model.specs.declared.kind.Kind.TheVariants.{Node}
use Rattle.osm_model.specs.declared.reference.Ref.{Ref}
use Rattle.ref_sets.proofs.shared.Adding.{adds_all, adds_as, adds_more, item_is_in}
use Rattle.ql_plain.specs.declared.step.Step.{Step}
use Rattle.ql_plain.proofs.found.Found.follow.Goals as goal

pub loop-step-preserved : goal.loop-step-preserved
loop-step-preserved c =
    let onward = c.steps_from-onward.result.now in
    let k = c.loop-step.step-index in
    let first : Ref = record { kind = Node; id = pos 0 } in
    let nothing : Step = record { from = first; to = first } in
    let step = get_or onward k nothing in
    let item = get_or_default onward k nothing step c.loop-step-test.true in
    let one = c.in_ok-add.ensures.added in
    let so = c.loop-step.invariant in
    let is_step = ((c.steps_from-onward.ensures step).0 (item_is_in onward k step c.loop-step-test.true item)).0 in
    let fewer = one.fewer c.args.steps.now step is_step refl in
    record {
      told = c.in_ok-add.ensures.told;
      goes = λ j d lt. let before = so.goes j d lt in let after = one.goes j d before.0 in (after.0, after.1 ∙ before.1);
      adds = adds_more onward (λ (step : Step) (r : Ref). step.to ≡ r) k step c.loop-step-test.true item so.adds one.adds;
      fewer = omega (arith, so.fewer, fewer);
    }

pub returns-clause-follows : goal.returns-clause-follows
returns-clause-follows c = record {
  goes = c.loop-step.invariant.goes;
  adds = adds_as
      (λ r from. let of = (c.steps_from-onward.ensures from.0).0 from.1 in (from.0, of.0, of.1, from.2))
      (λ r is. (is.0, (c.steps_from-onward.ensures is.0).1 (is.1, is.2), is.3))
      (adds_all c.steps_from-onward.result.now (λ (step : Step) (r : Ref). step.to ≡ r) c.loop-step.step-index c.loop-step-test.false c.loop-step.invariant.adds);
  fewer = c.loop-step.invariant.fewer;
}
