use Rattle.std.proofs.Common.{refl, get_or, pos, sym, ◌∙◌, rules}
use Rattle.std.proofs.lemmas.List.{get_or_default}
use Rattle.std.proofs.lemmas.List.Sorted.{answers_always, Contains-permutation, IsPermutation-sym, ranks_by}
use Rattle.std.specs.Ordering.{is_lt}
use Rattle.osm_model.proofs.shared.References.{refs_total}
use Rattle.osm_model.specs.Elements.{ref_cmp}
use Rattle.osm_model.specs.declared.kind.Kind.TheVariants.{Node}
use Rattle.osm_model.specs.declared.reference.Ref.{Ref}
use Rattle.ref_sets.proofs.shared.Adding.{adds_all, adds_more, adds_one, adds_start, adds_to_nothing}
use Rattle.ql_plain.specs.declared.links.Link.{Link}
use Rattle.ql_plain.specs.declared.step.Step.{Step}
use Rattle.ql_plain.specs.internal.Steps.{IsOriented}
use Rattle.ql_plain.proofs.step.steps.Goals as goal

pub loop-link-init : goal.loop-link-init
loop-link-init c = rw c.new-steps.ensures.items (adds_start c.args.links.now (IsOriented c.args.is_up))

pub loop-link-preserved : goal.loop-link-preserved
loop-link-preserved c =
    let links = c.args.links.now in
    let k = c.loop-link.link-index in
    let first : Ref = record { kind = Node; id = pos 0 } in
    let none : Link = record { parent = first; child = first } in
    let link = get_or links k none in
    adds_more links (IsOriented c.args.is_up) k link c.loop-link-test.true (get_or_default links k none link c.loop-link-test.true) c.loop-link.invariant
    (adds_one c.oriented.result c.in_ok-push.ensures.items (sym c.oriented.ensures) (λ step is. c.oriented.ensures ∙ is))

pub returns-clause-steps : goal.returns-clause-steps
returns-clause-steps c = λ step.
    let whole = adds_to_nothing refl (adds_all c.args.links.now (IsOriented c.args.is_up) c.loop-link.link-index c.loop-link-test.false c.loop-link.invariant) step in
    let moved = c.sort_unstable_by.ensures.permutation in (
      (λ has. whole.0 (Contains-permutation _ _ step (IsPermutation-sym _ _ moved) has)),
      (λ is. Contains-permutation _ _ step moved (whole.1 is)),
    )

pub returns-clause-sorted : goal.returns-clause-sorted
returns-clause-sorted c = c.sort_unstable_by.ensures.sorted (λ (x y : Step). is_lt (ref_cmp x.from y.from)) (ranks_by refs_total (λ (step : Step). step.from)) (answers_always _ _ _ (λ f a r g called. search rules))
