use Rattle.std.proofs.Common.{refl}
use Rattle.ql_syntax.proofs.RuleLemmas.{follows_give, keeps_stop, follows_then}
use Rattle.ql_syntax.specs.StatementRules.{recursion}
use Rattle.ql_syntax.proofs.statements.read_recursion.Goals as goal

pub returns-in_err-into : goal.returns-in_err-into
unfolding recursion
returns-in_err-into c = keeps_stop _ c.in_err-into.ensures c.from_residual.ensures.1

pub returns : goal.returns
unfolding recursion
returns c = follows_then _ c.in_ok-into.ensures (follows_give refl refl)
