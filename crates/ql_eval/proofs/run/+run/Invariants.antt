use Rattle.std.proofs.Common.{drop, take, Ok}
use Rattle.tree_node.specs.Outcomes.{Outcome}
use Rattle.tree_node.proofs.shared.OutcomeLaws.{uses}
use Rattle.ql_eval.specs.internal.Giving.{AllGiven, AllSetsGiven}
use Rattle.osm_keys.specs.Publications.{IsPublication, Publication}
use Rattle.ql_syntax.specs.StatementViews.{statements_of}
use Rattle.ql_meaning.specs.Meanings.{AfterAll, Telling}
use Rattle.ref_sets.specs.NamedSets.{lists_of}
use Rattle.ql_eval.specs.Asks.{AskedByAll}
use Rattle.ql_eval.specs.Faults.{cause_of_evaluation}
use Rattle.ql_eval.specs.Questions.{NeededBy}
use Rattle.ql_eval.specs.Work.{HasNoClash}
use Rattle.ql_eval.specs.internal.Metering.{IsGoing}
use Rattle.ql_eval.specs.internal.Recalling.{AreAnswers, AreAnswersGiven}
use Rattle.ql_eval.specs.internal.Lawful.{CanRunAll}
use Rattle.ql_eval.specs.internal.Links.{AreAllThere}
use Rattle.ql_eval.proofs.run.+run.Given as goal

abbrev pub invariant-run_all-loop-part : goal.invariant-run_all-loop-part
invariant-run_all-loop-part g l = record {
  later : g.W.Source.later l.fn.source l.source;
  walked : g.W.Source.walked l.fn.source l.source;
  sets_named : AllSetsGiven (g.W.Source.gave l.source) (lists_of l.sets.named.items);
  named : AllGiven (g.W.Source.gave l.source) l.given.items;
  recalled_named : AreAnswersGiven (g.W.Source.gave l.source) l.memo.remembered.items;
  answer : (p : Publication) → IsPublication p → g.W.Source.under l.fn.source p → AreAnswers p (g.W.Source.used l.fn.source) l.fn.memo.remembered.items → AreAllThere p.objects (lists_of l.fn.sets.named.items) → CanRunAll (statements_of l.parts)
      → Outcome cause_of_evaluation (λ (_ : Unit {0}). (AfterAll p.objects (statements_of (take l.part-index l.parts)) (lists_of l.fn.sets.named.items) (lists_of l.sets.named.items) l.given.items × AreAnswers p (g.W.Source.used l.source) l.memo.remembered.items) × g.W.Source.under l.source p)
      (NeededBy p (AskedByAll p (statements_of (take l.part-index l.parts)) (lists_of l.fn.sets.named.items))) (uses (g.W.Source.holds l.source) (g.W.Source.used l.fn.source) (g.W.Source.used l.source)) (Ok tt);
  going : (tell : Telling) (p : Publication) → IsPublication p → g.W.Source.under l.fn.source p → AreAnswers p (g.W.Source.used l.fn.source) l.fn.memo.remembered.items → AreAllThere p.objects (lists_of l.fn.sets.named.items) → CanRunAll (statements_of l.parts) → HasNoClash p (g.W.Source.used l.source)
      → IsGoing tell p (statements_of l.parts) (lists_of l.fn.sets.named.items) (statements_of (drop l.part-index l.parts)) (lists_of l.sets.named.items) l.fn.meter.spent l.meter.spent;
}
