use Rattle.ql_syntax.proofs.SpellingLemmas.{other_kind}
use Rattle.std.proofs.Common.{refl, rules}
use Rattle.ql_syntax.proofs.RuleLemmas.{follows_give, follows_no, keeps_stop, follows_then, follows_unexpected, follows_yes}
use Rattle.ql_syntax.specs.Selectors.{id_after}
use Rattle.ql_syntax.proofs.selector.read_id_after.Goals as goal

pub returns-in_err-token : goal.returns-in_err-token
unfolding id_after
returns-in_err-token c = keeps_stop _ c.in_err-token.ensures c.from_residual.ensures.1

pub returns-in_err-id-in-Comma : goal.returns-in_err-id-in-Comma
unfolding id_after
returns-in_err-id-in-Comma c = follows_then _ c.in_ok-token.ensures (follows_yes _ c.in-Comma.is (keeps_stop _ c.in_err-id-in-Comma.ensures c.from_residual-in_err-id-in-Comma.ensures.1))

pub returns-in_ok-id-in-Comma : goal.returns-in_ok-id-in-Comma
unfolding id_after
returns-in_ok-id-in-Comma c = follows_then _ c.in_ok-token.ensures (follows_yes _ c.in-Comma.is (follows_then _ c.in_ok-id-in-Comma.ensures (follows_give (search rules) refl)))

pub returns-in-CloseParenthesis : goal.returns-in-CloseParenthesis
unfolding id_after
returns-in-CloseParenthesis c = follows_then _ c.in_ok-token.ensures (follows_no _ (other_kind c.in-CloseParenthesis.is (λ e. cc)) (follows_yes _ c.in-CloseParenthesis.is (follows_give refl refl)))

pub returns-in_default : goal.returns-in_default
unfolding id_after
returns-in_default c = follows_then _ c.in_ok-token.ensures (follows_no _ c.in_default.not-Comma (follows_no _ c.in_default.not-CloseParenthesis (follows_unexpected _ c.unexpected.ensures)))
