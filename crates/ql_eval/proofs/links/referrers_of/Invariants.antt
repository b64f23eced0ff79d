use Rattle.std.proofs.Common.{[]}
use Rattle.tree_node.proofs.shared.OutcomeLaws.{uses}
use Rattle.ql_eval.specs.internal.Giving.{AllGiven}
use Rattle.osm_keys.specs.Publications.{IsPublication, Publication}
use Rattle.ql_eval.specs.internal.Links.{IsBackAsk, ListsIt}
use Rattle.ql_eval.proofs.LoopLemmas.{HasGone}
use Rattle.ql_eval.proofs.links.referrers_of.Given as goal

abbrev pub invariant-loop-name : goal.invariant-loop-name
invariant-loop-name g l = record {
  later : g.W.Source.later l.fn.source l.source;
  walked : g.W.Source.walked l.fn.source l.source;
  named : AllGiven (g.W.Source.gave l.source) l.refs.items;
  answer : (p : Publication) → IsPublication p → g.W.Source.under l.fn.source p
      → HasGone p l.names (ListsIt p.objects l.kind) (IsBackAsk l.kind) (g.W.Source.under l.source p) l.name-index [] l.refs.items (uses (g.W.Source.holds l.source) (g.W.Source.used l.fn.source) (g.W.Source.used l.source));
}
