use Rattle.std.proofs.Common.{◌++◌, ◌∷◌, List, ap}
use Rattle.tree_node.specs.NodeRefs.{binding_of}
use Rattle.tree_node.specs.Nodes.{Binding}
use Rattle.pack_compact.proofs.OutcomeLemmas.{err_ends}
use Rattle.pack_compact.proofs.TakenLemmas.{push_refused, push_taken, taken_to}
use Rattle.pack_compact.specs.internal.Copying.{IsFailure, IsTakenTo}
use Rattle.pack_compact.proofs.copy.take_leaf.Goals as goal

pub returns-in_err-push-clause-taken : goal.returns-in_err-push-clause-taken
returns-in_err-push-clause-taken g c = λ p known others left has some taken.
    let e = binding_of c.in-Some.entry in
    let here = taken_to p others c.args.tree c.loop-entry.builder _ (e ∷ c.next.new.self ++ left) (ap (λ (es : List Binding). es ++ left) c.in-Some.ensures.steps) (c.loop-entry.invariant.0 p others left has taken) in
    err_ends c.from_residual.result _ (λ done. IsTakenTo p others c.args.tree c.push.new.self left) (IsFailure known) c.from_residual.ensures.1
    (push_refused p others c.args.tree c.loop-entry.builder c.push.new.self e (c.next.new.self ++ left) has here known c.in_err-push.field-0.0 c.push.result c.in_err-push.was c.push.ensures.rising c.push.ensures.long c.push.ensures.many)

pub loop-entry-preserved : goal.loop-entry-preserved
loop-entry-preserved g c = (
  λ p others left has taken.
      let e = binding_of c.in-Some.entry in
      let here = taken_to p others c.args.tree c.loop-entry.builder _ (e ∷ c.next.new.self ++ left) (ap (λ (es : List Binding). es ++ left) c.in-Some.ensures.steps) (c.loop-entry.invariant.0 p others left has taken) in
      push_taken p others c.args.tree c.loop-entry.builder c.push.new.self e (c.next.new.self ++ left) has here c.in_ok-push.ensures.taken,
  λ none. absurd (cc),
)
