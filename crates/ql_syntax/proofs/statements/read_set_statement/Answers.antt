use Rattle.ql_syntax.proofs.RuleLemmas.{follows_case, follows_from, follows_no, keeps_stop, follows_then, follows_yes}
use Rattle.ql_syntax.specs.StatementRules.{set_statement}
use Rattle.ql_syntax.proofs.statements.read_set_statement.Goals as goal

pub returns-in_err-token : goal.returns-in_err-token
unfolding set_statement
returns-in_err-token c = keeps_stop _ c.in_err-token.ensures c.from_residual.ensures.1

pub returns-in-Word : goal.returns-in-Word
unfolding set_statement
returns-in-Word c = follows_then _ c.in_ok-token.ensures (follows_yes _ c.in-Word.is (follows_then _ c.word_at.ensures c.read_set_word_statement.ensures))

pub returns-in-Some : goal.returns-in-Some
unfolding set_statement
returns-in-Some c = follows_then _ c.in_ok-token.ensures (follows_no _ c.in_default.not-Word (follows_case _ c.in-Some.ensures c.read_recursion.ensures))

pub returns-in-None : goal.returns-in-None
unfolding set_statement
returns-in-None c = follows_then _ c.in_ok-token.ensures (follows_no _ c.in_default.not-Word (follows_case _ c.in-None.ensures (follows_from c.read_item.ensures)))
