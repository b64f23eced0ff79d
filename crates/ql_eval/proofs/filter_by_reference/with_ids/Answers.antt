use Rattle.std.proofs.Common.{ℤ, FitsSigned, get_or, pos, refl, rules, subst, to_z-of_z, w64}
use Rattle.ref_sets.proofs.shared.Adding.{adds_all}
use Rattle.ref_sets.specs.Adding.{Adds}
use Rattle.ql_eval.proofs.EachLemmas.{adds_next}
use Rattle.ql_eval.proofs.LinkLemmas.{set_of_added}
use Rattle.ql_eval.specs.internal.Narrowing.{HasId}
use Rattle.ql_eval.proofs.NarrowingLemmas.{with_ids_ok}
use Rattle.ql_eval.proofs.filter_by_reference.with_ids.Goals as goal

pub loop-id-preserved : goal.loop-id-preserved
loop-id-preserved c =
    let item = get_or c.args.ids.now c.loop-id.id-index (pos 0) in
    let small : FitsSigned w64 item = search rules in
    adds_next c.args.ids.now HasId c.loop-id.id-index (pos 0) c.loop-id-test.true c.loop-id.invariant
    (subst (λ (id : ℤ). Adds c.loop-id.those.items c.add_with_id.new.refs.items (HasId id)) (to_z-of_z small) c.in_ok-add_with_id.ensures)

pub returns : goal.returns
returns c =
    with_ids_ok c.args.refs.now c.args.ids.now c.from_refs-with_ids.result c.from_refs-with_ids.result c.intersection.result
    (set_of_added (adds_all c.args.ids.now HasId c.loop-id.id-index c.loop-id-test.false c.loop-id.invariant) c.from_refs-with_ids.ensures) refl c.intersection.ensures
