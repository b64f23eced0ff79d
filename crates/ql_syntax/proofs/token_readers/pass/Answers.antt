use Rattle.ql_syntax.proofs.RuleLemmas.{follows_give, follows_no, keeps_stop, follows_then, follows_unexpected, follows_yes}
use Rattle.ql_syntax.specs.TokenRules.{pass}
use Rattle.std.proofs.Common.{refl}
use Rattle.ql_syntax.proofs.token_readers.pass.Goals as goal

pub returns-in_err-token : goal.returns-in_err-token
unfolding pass
returns-in_err-token c = keeps_stop _ c.in_err-token.ensures c.from_residual.ensures.1

pub returns-then-is : goal.returns-then-is
unfolding pass
returns-then-is c =
    follows_then _ c.in_ok-token.ensures (follows_yes _ (c.is.ensures.yes c.if-is.true) (follows_give refl refl))

pub returns-else-is : goal.returns-else-is
unfolding pass
returns-else-is c =
    follows_then _ c.in_ok-token.ensures (follows_no _ (c.is.ensures.no c.if-is.false) (follows_unexpected _ c.unexpected.ensures))
