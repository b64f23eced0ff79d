use Rattle.ql_syntax.proofs.SpellingLemmas.{other_kind}
use Rattle.std.proofs.Common.{refl}
use Rattle.ql_syntax.proofs.RuleLemmas.{follows_give, follows_no, follows_refuse, keeps_stop, follows_then, follows_unexpected, follows_yes}
use Rattle.ql_syntax.specs.Selectors.{path_close}
use Rattle.ql_syntax.proofs.selector.pass_path_close.Goals as goal

pub returns-in_err-token : goal.returns-in_err-token
unfolding path_close
returns-in_err-token c = keeps_stop _ c.in_err-token.ensures c.from_residual.ensures.1

pub returns-in-CloseParenthesis : goal.returns-in-CloseParenthesis
unfolding path_close
returns-in-CloseParenthesis c = follows_then _ c.in_ok-token.ensures (follows_yes _ c.in-CloseParenthesis.is (follows_give refl refl))

pub returns-in-Colon : goal.returns-in-Colon
unfolding path_close
returns-in-Colon c = follows_then _ c.in_ok-token.ensures (follows_no _ (other_kind c.in-Colon.is (λ e. cc)) (follows_yes _ c.in-Colon.is (follows_refuse c.at.ensures.cause c.at.ensures.rest)))

pub returns-in_default : goal.returns-in_default
unfolding path_close
returns-in_default c = follows_then _ c.in_ok-token.ensures (follows_no _ c.in_default.not-CloseParenthesis (follows_no _ c.in_default.not-Colon (follows_unexpected _ c.unexpected.ensures)))
