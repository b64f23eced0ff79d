use Rattle.std.proofs.Common.{◌≡◌, Ok, filter, length, take}
use Rattle.tree_node.specs.Outcomes.{Outcome}
use Rattle.tree_node.proofs.shared.OutcomeLaws.{uses}
use Rattle.osm_keys.specs.Publications.{IsPublication, Publication}
use Rattle.ql_syntax.specs.StatementViews.{filter_of, filters_of}
use Rattle.ref_sets.specs.Adding.{From}
use Rattle.ql_plan.specs.Plans.{is_counted}
use Rattle.ql_eval.specs.Asks.{AreCounts}
use Rattle.ql_eval.specs.Faults.{cause_of_evaluation}
use Rattle.ql_eval.specs.Questions.{NeededBy}
use Rattle.ql_eval.specs.internal.Counting.{IsRivalAsk}
use Rattle.ql_eval.specs.internal.Truths.{StaysTrue}
use Rattle.ql_eval.proofs.choose_plan.counts_of.Given as goal

abbrev pub invariant-loop-filter : goal.invariant-loop-filter
invariant-loop-filter g l = record {
  later : g.W.Source.later l.fn.source l.source;
  walked : g.W.Source.walked l.fn.source l.source;
  truly : StaysTrue g.W.Source.under l.fn.source l.source;
  many : length l.counts.items ≡ length (filter is_counted (filters_of (take l.filter-index l.filters)));
  answer : (p : Publication) → IsPublication p → g.W.Source.reads l.fn.source p
      → Outcome cause_of_evaluation (λ (_ : Unit {0}). AreCounts p l.kind (filter is_counted (filters_of (take l.filter-index l.filters))) l.counts.items)
      (NeededBy p (From (take l.filter-index l.filters) (λ f. IsRivalAsk l.kind (filter_of f))))
      (uses (g.W.Source.holds l.source) (g.W.Source.used l.fn.source) (g.W.Source.used l.source)) (Ok tt);
}
