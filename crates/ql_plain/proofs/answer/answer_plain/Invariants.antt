use Rattle.std.proofs.Common.{take}
use Rattle.ql_syntax.specs.StatementViews.{statements_of}
use Rattle.ref_sets.specs.NamedSets.{nothing_named, lists_of}
use Rattle.ql_meaning.proofs.shared.Answering.{PrintsTo}
use Rattle.ql_plain.proofs.answer.answer_plain.Given as goal

abbrev pub invariant-loop-statement : goal.invariant-loop-statement
invariant-loop-statement l = PrintsTo l.set (statements_of (take l.statement-index l.statements)) nothing_named (lists_of l.sets.named.items) l.text.items
