use Rattle.std.proofs.Common.{List, subst, ◌∙◌}
use Rattle.std.proofs.lemmas.List.{take_all}
use Rattle.ql_syntax.specs.StatementViews.{statements_of}
use Rattle.ql_syntax.specs.declared.statement.Stmt.{Stmt}
use Rattle.ql_meaning.proofs.shared.Answering.{prints, prints_next}
use Rattle.ql_meaning.specs.Meanings.{Means}
use Rattle.ref_sets.specs.NamedSets.{nothing_named, lists_of}
use Rattle.ql_plain.proofs.answer.answer_plain.Goals as goal

pub loop-statement-preserved : goal.loop-statement-preserved
loop-statement-preserved c =
    prints_next c.args.set.now c.stmts-statements.result.now c.loop-statement.statement-index c.statement-item.result c.loop-statement-test.true c.statement-item.is
    nothing_named (lists_of c.loop-statement.sets.named.items) (lists_of c.answer_statement.new.sets.named.items) c.loop-statement.text.items c.answer_statement.new.text.items
    c.loop-statement.invariant c.in_ok-answer_statement.ensures.after c.in_ok-answer_statement.ensures.told

pub returns : goal.returns
returns c =
    subst (λ (statements : List Stmt). Means c.args.set.now (statements_of statements) c.loop-statement.text.items)
    (take_all c.loop-statement.statement-index c.stmts-statements.result.now c.loop-statement-test.false ∙ c.stmts-statements.ensures.statements)
    (prints c.args.set.now _ nothing_named (lists_of c.loop-statement.sets.named.items) c.loop-statement.text.items c.loop-statement.invariant)
