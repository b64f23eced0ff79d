use Rattle.tree_node.specs.Shelves.{SameNodes}
use Rattle.ql_eval.specs.internal.Truths.{StaysTrue}
use Rattle.ql_eval.proofs.announcing.announce_all.Given as goal

abbrev pub invariant-loop-name : goal.invariant-loop-name
invariant-loop-name g l = record {
  later : g.W.Source.later l.fn.source l.source;
  walked : g.W.Source.walked l.fn.source l.source;
  truly : StaysTrue g.W.Source.under l.fn.source l.source;
  used : SameNodes (g.W.Source.used l.fn.source) (g.W.Source.used l.source);
}
