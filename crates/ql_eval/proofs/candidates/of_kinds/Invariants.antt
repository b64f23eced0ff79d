use Rattle.std.proofs.Common.{[]}
use Rattle.tree_node.proofs.shared.OutcomeLaws.{uses}
use Rattle.ql_eval.specs.internal.Giving.{AllGiven}
use Rattle.osm_keys.specs.Publications.{IsPublication, Publication}
use Rattle.ql_eval.specs.internal.Candidates.{IsKindAsk, IsOfThisKind}
use Rattle.ql_eval.proofs.LoopLemmas.{HasGone}
use Rattle.ql_eval.proofs.candidates.of_kinds.Given as goal

abbrev pub invariant-loop-kind : goal.invariant-loop-kind
invariant-loop-kind g l = record {
  later : g.W.Source.later l.fn.source l.source;
  walked : g.W.Source.walked l.fn.source l.source;
  named : AllGiven (g.W.Source.gave l.source) l.refs.items;
  answer : (p : Publication) → IsPublication p → g.W.Source.under l.fn.source p
      → HasGone p l.kinds (IsOfThisKind p.objects) IsKindAsk (g.W.Source.under l.source p) l.kind-index [] l.refs.items (uses (g.W.Source.holds l.source) (g.W.Source.used l.fn.source) (g.W.Source.used l.source));
}
