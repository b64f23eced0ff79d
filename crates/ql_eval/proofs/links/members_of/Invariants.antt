use Rattle.std.proofs.Common.{[], take}
use Rattle.tree_node.proofs.shared.OutcomeLaws.{uses}
use Rattle.osm_keys.specs.Publications.{IsPublication, Publication}
use Rattle.ql_eval.specs.internal.Giving.{AllGiven}
use Rattle.ql_eval.specs.internal.Objects.{AreKnownParents}
use Rattle.ql_eval.specs.internal.Links.{AreThere, IsListedOf, IsParentAsk}
use Rattle.ql_eval.proofs.LoopLemmas.{HasGone}
use Rattle.ql_eval.proofs.links.members_of.Given as goal

abbrev pub invariant-loop-name : goal.invariant-loop-name
invariant-loop-name g l = record {
  later : g.W.Source.later l.fn.source l.source;
  walked : g.W.Source.walked l.fn.source l.source;
  listed : AllGiven (g.W.Source.may_be_absent l.source) l.listed.items;
  there : AreKnownParents (g.W.Source.knows l.source) (take l.name-index l.names);
  answer : (p : Publication) → IsPublication p → g.W.Source.under l.fn.source p → AreThere p.objects l.names
      → HasGone p l.names (IsListedOf p.objects) (IsParentAsk p) (g.W.Source.under l.source p) l.name-index [] l.listed.items (uses (g.W.Source.holds l.source) (g.W.Source.used l.fn.source) (g.W.Source.used l.source));
}
