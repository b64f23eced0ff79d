use Rattle.std.proofs.Common.{refl}
use Rattle.ql_syntax.proofs.RuleLemmas.{follows_from, follows_give, follows_no, follows_stop, follows_then, follows_yes}
use Rattle.ql_syntax.specs.StatementRules.{top_statement}
use Rattle.ql_syntax.proofs.statements.read_top_statement.Goals as goal

pub returns-in_err-token : goal.returns-in_err-token
unfolding top_statement
returns-in_err-token c = follows_stop _ c.in_err-token.ensures c.from_residual.ensures.1

pub returns-in_err-statement-in_default : goal.returns-in_err-statement-in_default
unfolding top_statement
returns-in_err-statement-in_default c = follows_then _ c.in_ok-token.ensures (follows_no _ c.in_default.not-End (follows_stop _ (follows_from c.in_err-statement-in_default.ensures) c.from_residual-in_err-statement-in_default.ensures.1))

pub returns-in-End : goal.returns-in-End
unfolding top_statement
returns-in-End c = follows_then _ c.in_ok-token.ensures (follows_yes _ c.in-End.is (follows_from (follows_give refl refl)))

pub returns-in_ok-statement-in_default : goal.returns-in_ok-statement-in_default
unfolding top_statement
returns-in_ok-statement-in_default c = follows_then _ c.in_ok-token.ensures (follows_no _ c.in_default.not-End (follows_then _ (follows_from c.in_ok-statement-in_default.ensures) (follows_give refl refl)))
