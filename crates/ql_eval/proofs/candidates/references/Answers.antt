use Rattle.std.proofs.lemmas.List.{get_or_default}
use Rattle.osm_model.specs.declared.kind.Kind.{Kind}
use Rattle.osm_model.specs.declared.reference.Ref.{Ref}
use Rattle.ref_sets.proofs.shared.Adding.{adds_all, adds_more}
use Rattle.ref_sets.specs.Adding.{From}
use Rattle.ql_eval.specs.internal.Candidates.{IsWith}
use Rattle.ql_eval.proofs.CandidateLemmas.{with_kinds_and_ids}
use Rattle.ql_eval.proofs.candidates.references.Goals as goal

pub loop-kind-preserved : goal.loop-kind-preserved
loop-kind-preserved c =
    adds_more c.args.kinds.now (λ (kind : Kind) (r : Ref). From c.args.ids.now (IsWith kind) r) c.loop-kind.kind-index _ c.loop-kind-test.true (get_or_default c.args.kinds.now c.loop-kind.kind-index _ _ c.loop-kind-test.true)
    c.loop-kind.invariant c.in_ok-add_references.ensures

pub returns : goal.returns
returns c = with_kinds_and_ids c.args.kinds.now c.args.ids.now c.loop-kind.names.items
    (adds_all c.args.kinds.now (λ (kind : Kind) (r : Ref). From c.args.ids.now (IsWith kind) r) c.loop-kind.kind-index c.loop-kind-test.false c.loop-kind.invariant)
