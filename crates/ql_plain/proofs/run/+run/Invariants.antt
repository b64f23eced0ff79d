use Rattle.std.proofs.Common.{take}
use Rattle.ql_syntax.specs.StatementViews.{statements_of}
use Rattle.ql_meaning.specs.Meanings.{AfterAll}
use Rattle.ref_sets.specs.NamedSets.{lists_of}
use Rattle.ql_plain.proofs.run.+run.Given as goal

abbrev pub invariant-run_all-loop-part : goal.invariant-run_all-loop-part
invariant-run_all-loop-part l = AfterAll l.set (statements_of (take l.part-index l.parts)) (lists_of l.fn.sets.named.items) (lists_of l.sets.named.items) l.given.items
