use Rattle.std.proofs.Common.{◌↔◌, List, subst, sym}
use Rattle.std.specs.List.{Contains}
use Rattle.osm_model.specs.declared.kind.Kind.{Kind}
use Rattle.osm_model.specs.declared.reference.Ref.{Ref}
use Rattle.ql_eval.proofs.CandidateLemmas.{ids_need, ids_there, named_ids, needs_ids}
use Rattle.ql_eval.proofs.TruthLemmas.{truly_same}
use Rattle.ql_eval.proofs.candidates.with_ids.Goals as goal

pub returns-clause-answer : goal.returns-clause-answer
returns-clause-answer g c = λ p is under.
    let ids = c.args.ids.now in
    let names = c.deref.result.now in
    let are = subst (λ (l : List Ref). (r : Ref) → Contains l r ↔ (Contains c.kinds_in.result.now r.kind × Contains ids r.id)) (sym c.deref.ensures.value) c.in_ok-names.ensures in
    let all = subst (λ (kinds : List Kind). (r : Ref) → Contains names r ↔ (Contains kinds r.kind × Contains ids r.id)) c.kinds_in.ensures are in
    truly_same (ids_need p c.args.kind ids names all) (λ refs so. needs_ids p c.args.kind ids names all) (λ refs. ids_there p c.args.kind ids names all refs) (c.those_there.ensures.answer p is under)

pub those_there-requires : goal.those_there-requires
those_there-requires g c =
    let ids = c.args.ids.now in
    let names = c.deref.result.now in
    let are = subst (λ (l : List Ref). (r : Ref) → Contains l r ↔ (Contains c.kinds_in.result.now r.kind × Contains ids r.id)) (sym c.deref.ensures.value) c.in_ok-names.ensures in
    let all = subst (λ (kinds : List Kind). (r : Ref) → Contains names r ↔ (Contains kinds r.kind × Contains ids r.id)) c.kinds_in.ensures are in
    λ r has. c.requires r ((named_ids c.args.kind ids names all r).0 has)
