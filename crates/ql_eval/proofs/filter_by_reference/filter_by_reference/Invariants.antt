use Rattle.std.proofs.Common.{Ok, take}
use Rattle.std.specs.List.{Contains}
use Rattle.tree_node.specs.Outcomes.{Outcome}
use Rattle.tree_node.proofs.shared.OutcomeLaws.{uses}
use Rattle.ql_eval.specs.internal.Giving.{AllGiven}
use Rattle.osm_keys.specs.Publications.{IsPublication, Publication}
use Rattle.ql_syntax.specs.StatementViews.{filter_of, filters_of}
use Rattle.ref_sets.specs.Adding.{From}
use Rattle.ref_sets.specs.Sets.{IsSetOf}
use Rattle.ref_sets.specs.NamedSets.{lists_of}
use Rattle.ql_eval.specs.Asks.{AskedByRest}
use Rattle.ql_eval.specs.Faults.{cause_of_evaluation}
use Rattle.ql_eval.specs.Questions.{NeededBy}
use Rattle.ql_eval.specs.internal.Links.{AreAllThere}
use Rattle.ql_eval.specs.internal.Narrowing.{IsNamedByAll}
use Rattle.ql_eval.proofs.filter_by_reference.filter_by_reference.Given as goal

abbrev pub invariant-loop-filter : goal.invariant-loop-filter
invariant-loop-filter g l = record {
  later : g.W.Source.later l.fn.source l.source;
  walked : g.W.Source.walked l.fn.source l.source;
  named : AllGiven (g.W.Source.gave l.source) l.left;
  answer : (p : Publication) → IsPublication p → g.W.Source.under l.fn.source p → AreAllThere p.objects (lists_of l.sets.named.items)
      → Outcome cause_of_evaluation (λ (_ : Unit {0}). IsSetOf l.left (λ r. Contains l.fn.refs r × IsNamedByAll p.objects (lists_of l.sets.named.items) (filters_of (take l.filter-index l.filters)) r) × g.W.Source.under l.source p)
      (NeededBy p (From (take l.filter-index l.filters) (λ f. AskedByRest p (lists_of l.sets.named.items) (filter_of f))))
      (uses (g.W.Source.holds l.source) (g.W.Source.used l.fn.source) (g.W.Source.used l.source)) (Ok tt);
}
