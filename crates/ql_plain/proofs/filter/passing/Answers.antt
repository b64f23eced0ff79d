use Rattle.std.proofs.Common.{Vec, Global, sym, ap, subst, ◌∙◌}
use Rattle.osm_model.specs.declared.reference.Ref.{Ref}
use Rattle.ref_sets.proofs.shared.Adding.{adds_all, adds_more, adds_nothing, adds_one, adds_start}
use Rattle.ql_syntax.specs.StatementViews.{filter_of}
use Rattle.osm_model.specs.Elements.{Element}
use Rattle.ref_sets.specs.Adding.{Adds}
use Rattle.ql_meaning.specs.ObjectTests.{PassesAlone}
use Rattle.ql_plain.proofs.Selecting.{IsOf, refs_of}
use Rattle.ql_plain.proofs.filter.passing.Goals as goal
use Rattle.ql_plain.proofs.filter.passing.Goals.{then-passes+in_ok-push, else-passes}

pub loop-object-init : goal.loop-object-init
loop-object-init c = let Is : Element → Type 0 = λ o. PassesAlone (filter_of c.args.filter.now) o in rw c.new-refs.ensures.items (adds_start c.as_slice-objects.result.now (IsOf Is))

pub loop-object-preserved : goal.loop-object-preserved
loop-object-preserved c =
    let Is : Element → Type 0 = λ o. PassesAlone (filter_of c.args.filter.now) o in
    let o = c.object-item.result in
    adds_more c.as_slice-objects.result.now (IsOf Is) c.loop-object.object-index o c.loop-object-test.true c.object-item.is c.loop-object.invariant
    (elim c.if-passes.branch [
      | then-passes+in_ok-push w ↦
          adds_one w.reference.result (ap (λ (v : Vec Ref Global). v.items) w.refs-is ∙ w.in_ok-push.ensures.items) (c.passes.ensures.0 w.if-passes.true, sym w.reference.ensures.value) (λ r is. w.reference.ensures.value ∙ is.1)
      | else-passes w ↦
          subst (λ (v : Vec Ref Global). Adds c.loop-object.refs.items v.items (IsOf Is o)) (sym w.refs-is)
          (adds_nothing (λ r is. let yes_is = c.passes.ensures.1 is.0 in let not = w.if-passes.false in cc))
    ])

pub returns : goal.returns
returns c =
    let Is : Element → Type 0 = λ o. PassesAlone (filter_of c.args.filter.now) o in
    let objects = c.as_slice-objects.result.now in
    refs_of c.args.set.now objects Is c.as_slice-objects.ensures.value
    (adds_all objects (IsOf Is) c.loop-object.object-index c.loop-object-test.false c.loop-object.invariant) c.from_refs.ensures
