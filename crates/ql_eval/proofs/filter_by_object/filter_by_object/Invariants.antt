use Rattle.std.proofs.Common.{[], ◌++◌, take}
use Rattle.tree_node.proofs.shared.OutcomeLaws.{uses}
use Rattle.ql_eval.specs.internal.Giving.{AllGiven}
use Rattle.osm_keys.specs.Publications.{IsPublication, Publication}
use Rattle.ql_syntax.specs.StatementViews.{filters_of}
use Rattle.ref_sets.specs.NamedSets.{lists_of}
use Rattle.ql_eval.specs.internal.Objects.{AreKnownThere}
use Rattle.ql_eval.specs.internal.Links.{AreThere, IsLineAsk}
use Rattle.ql_eval.proofs.LoopLemmas.{HasGone}
use Rattle.ql_eval.specs.internal.Narrowing.{IsPassingAs}
use Rattle.ql_eval.proofs.filter_by_object.filter_by_object.Given as goal

abbrev pub invariant-loop-name : goal.invariant-loop-name
invariant-loop-name g l = record {
  later : g.W.Source.later l.fn.source l.source;
  walked : g.W.Source.walked l.fn.source l.source;
  there : AreKnownThere (g.W.Source.knows l.source) (take l.name-index l.names);
  named : AllGiven (g.W.Source.gave l.source) l.refs.items;
  answer : (p : Publication) → IsPublication p → g.W.Source.under l.fn.source p → AreThere p.objects l.names
      → HasGone p l.names (IsPassingAs p.objects (lists_of l.sets.named.items) (filters_of l.before ++ filters_of l.after)) (IsLineAsk p) (g.W.Source.under l.source p) l.name-index [] l.refs.items
      (uses (g.W.Source.holds l.source) (g.W.Source.used l.fn.source) (g.W.Source.used l.source));
}
