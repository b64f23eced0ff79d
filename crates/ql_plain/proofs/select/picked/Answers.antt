use Rattle.std.proofs.Common.{Vec, Global, sym, ap, subst, ◌∙◌}
use Rattle.osm_model.specs.declared.reference.Ref.{Ref}
use Rattle.ref_sets.proofs.shared.Adding.{adds_all, adds_more, adds_nothing, adds_one, adds_start}
use Rattle.ref_sets.specs.Adding.{Adds}
use Rattle.ql_meaning.specs.Values.{IsPicked}
use Rattle.ql_plain.proofs.Selecting.{IsOf, refs_of}
use Rattle.ql_plain.proofs.select.picked.Goals as goal
use Rattle.ql_plain.proofs.select.picked.Goals.{then-is_picked+in_ok-push, else-is_picked}

pub loop-object-init : goal.loop-object-init
loop-object-init c = rw c.new-refs.ensures.items (adds_start c.as_slice-objects.result.now (IsOf (IsPicked c.args.kind)))

pub loop-object-preserved : goal.loop-object-preserved
loop-object-preserved c =
    let o = c.object-item.result in
    adds_more c.as_slice-objects.result.now (IsOf (IsPicked c.args.kind)) c.loop-object.object-index o c.loop-object-test.true c.object-item.is c.loop-object.invariant
    (elim c.if-is_picked.branch [
      | then-is_picked+in_ok-push w ↦
          adds_one w.reference.result (ap (λ (v : Vec Ref Global). v.items) w.refs-is ∙ w.in_ok-push.ensures.items) (c.is_picked.ensures.0 w.if-is_picked.true, sym w.reference.ensures.value) (λ r is. w.reference.ensures.value ∙ is.1)
      | else-is_picked w ↦
          subst (λ (v : Vec Ref Global). Adds c.loop-object.refs.items v.items (IsOf (IsPicked c.args.kind) o)) (sym w.refs-is)
          (adds_nothing (λ r is. let yes_is = c.is_picked.ensures.1 is.0 in let not = w.if-is_picked.false in cc))
    ])

pub returns : goal.returns
returns c =
    let objects = c.as_slice-objects.result.now in
    refs_of c.args.set.now objects (IsPicked c.args.kind) c.as_slice-objects.ensures.value
    (adds_all objects (IsOf (IsPicked c.args.kind)) c.loop-object.object-index c.loop-object-test.false c.loop-object.invariant) c.from_refs.ensures
