use Rattle.std.proofs.Common.{◌≡◌, ℕ, List, drop}
use Rattle.tree_node.proofs.shared.OutcomeLaws.{uses}
use Rattle.ql_eval.specs.internal.Giving.{AllSetsGiven}
use Rattle.osm_keys.specs.Publications.{IsPublication, Publication}
use Rattle.ql_syntax.specs.LawfulQueries.{IsQuery}
use Rattle.osm_forms.specs.Forms.{form_text}
use Rattle.ql_syntax.specs.StatementViews.{statements_of}
use Rattle.ref_sets.specs.NamedSets.{lists_of, nothing_named}
use Rattle.ql_eval.specs.Work.{HasNoClash}
use Rattle.ql_eval.specs.internal.Metering.{IsGoing}
use Rattle.ql_eval.specs.internal.Recalling.{AreAnswers, AreAnswersGiven}
use Rattle.ql_eval.specs.Written.{HasWritten}
use Rattle.ql_eval.proofs.QueryLemmas.{HasAnswered}
use Rattle.ql_eval.proofs.answering.answer_all.Given as goal

abbrev pub invariant-loop-statement : goal.invariant-loop-statement
invariant-loop-statement g l = record {
  later : g.W.Source.later l.fn.source l.source;
  walked : g.W.Source.walked l.fn.source l.source;
  kept : g.T.Sink.kept l.sink ≡ g.T.Sink.kept l.fn.sink;
  wrote : (text : List ℕ) × HasWritten (g.T.Sink.stands l.fn.sink) (g.T.Sink.stands l.sink) text;
  named : AllSetsGiven (g.W.Source.gave l.source) (lists_of l.sets.named.items);
  recalled_named : AreAnswersGiven (g.W.Source.gave l.source) l.memo.remembered.items;
  answer : (p : Publication) → IsPublication p → g.W.Source.under l.fn.source p → IsQuery (statements_of l.statements)
      → HasAnswered (form_text l.form) p l.statements l.statement-index (lists_of l.sets.named.items) (AreAnswers p (g.W.Source.used l.source) l.memo.remembered.items) (g.W.Source.under l.source p) (g.T.Sink.stands l.fn.sink) (g.T.Sink.stands l.sink)
      (uses (g.W.Source.holds l.source) (g.W.Source.used l.fn.source) (g.W.Source.used l.source));
  going : (p : Publication) → IsPublication p → g.W.Source.under l.fn.source p → IsQuery (statements_of l.statements) → HasNoClash p (g.W.Source.used l.source)
      → IsGoing (form_text l.form) p (statements_of l.statements) nothing_named (statements_of (drop l.statement-index l.statements)) (lists_of l.sets.named.items) l.fn.meter.spent l.meter.spent;
}
