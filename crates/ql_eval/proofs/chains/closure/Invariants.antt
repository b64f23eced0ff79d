use Rattle.std.proofs.Common.{◌≡◌, ◌-◌, ◌^◌, ◌≤◌, length, take, Ok}
use Rattle.tree_node.specs.Outcomes.{Outcome}
use Rattle.tree_node.proofs.shared.OutcomeLaws.{uses}
use Rattle.ql_eval.specs.internal.Giving.{AllGiven}
use Rattle.osm_keys.specs.Publications.{IsPublication, Publication}
use Rattle.ql_eval.specs.internal.Affording.{AreApart}
use Rattle.ql_eval.specs.internal.Founds.{IsConsistent}
use Rattle.ql_eval.specs.Faults.{cause_of_evaluation}
use Rattle.ql_eval.specs.Questions.{NeededBy}
use Rattle.ql_eval.specs.internal.Chains.{AreChained, IsChainAsk}
use Rattle.ql_eval.specs.internal.Links.{AreThere}
use Rattle.ql_eval.proofs.chains.closure.Given as goal

abbrev pub invariant-loop-at : goal.invariant-loop-at
invariant-loop-at g l = record {
  consistent : IsConsistent l.found;
  apart : AreApart l.found.refs.items;
  same : l.meter.spent ≡ l.fn.meter.spent;
  within : l.at ≤ length l.found.refs.items;
  later : g.W.Source.later l.fn.source l.source;
  walked : g.W.Source.walked l.fn.source l.source;
  named : AllGiven (g.W.Source.gave l.source) l.found.refs.items;
  answer : (p : Publication) → IsPublication p → g.W.Source.under l.fn.source p → AreThere p.objects l.from
      → Outcome cause_of_evaluation (λ (_ : Unit {0}). AreChained l.direction p.objects l.from (take l.at l.found.refs.items) l.found.refs.items × g.W.Source.under l.source p)
      (NeededBy p (IsChainAsk l.direction p l.from (take l.at l.found.refs.items))) (uses (g.W.Source.holds l.source) (g.W.Source.used l.fn.source) (g.W.Source.used l.source)) (Ok tt);
}

abbrev pub decreases-loop-at : goal.decreases-loop-at
decreases-loop-at g l = 2 ^ 64 - l.at
