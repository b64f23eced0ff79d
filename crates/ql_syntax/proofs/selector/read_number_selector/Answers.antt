use Rattle.ql_syntax.proofs.SpellingLemmas.{other_kind}
use Rattle.std.proofs.Common.{List, ℤ, ap, rules, sym, ◌∙◌, refl}
use Rattle.ql_syntax.specs.Filters.{Ids}
use Rattle.ql_syntax.proofs.FilterLemmas.{follows_out}
use Rattle.ql_syntax.proofs.RuleLemmas.{follows_give, follows_no, follows_refuse, follows_stop, follows_then, follows_unexpected, follows_yes, not_true}
use Rattle.ql_syntax.specs.Selectors.{number_selector}
use Rattle.ql_syntax.proofs.selector.read_number_selector.Goals as goal

pub returns-in_err-token : goal.returns-in_err-token
unfolding number_selector
returns-in_err-token c = follows_stop _ c.in_err-token.ensures c.from_residual.ensures.1

pub returns-in_err-id-in-CloseParenthesis : goal.returns-in_err-id-in-CloseParenthesis
unfolding number_selector
returns-in_err-id-in-CloseParenthesis c = follows_then _ c.in_ok-token.ensures (follows_no _ (other_kind c.in-CloseParenthesis.is (λ e. cc)) (follows_yes _ c.in-CloseParenthesis.is (follows_stop _ (c.in_err-id-in-CloseParenthesis.ensures _) c.from_residual-in_err-id-in-CloseParenthesis.ensures.1)))

pub returns-in_err-ids-in-CloseParenthesis : goal.returns-in_err-ids-in-CloseParenthesis
returns-in_err-ids-in-CloseParenthesis c = let h = c.from_residual-in_err-ids-in-CloseParenthesis.ensures in follows_out h.1

pub returns-in-Comma : goal.returns-in-Comma
unfolding number_selector
returns-in-Comma c = follows_then _ c.in_ok-token.ensures (follows_yes _ c.in-Comma.is (follows_yes _ (sym c.takes_boxes.ensures ∙ c.if-takes_boxes.true) c.read_box.ensures))

pub returns-in-Comma-2 : goal.returns-in-Comma-2
unfolding number_selector
returns-in-Comma-2 c = follows_then _ c.in_ok-token.ensures (follows_yes _ c.in-Comma-2.is (follows_no _ (not_true (sym c.takes_boxes.ensures ∙ c.if-takes_boxes.false)) (follows_refuse c.at.ensures.cause c.at.ensures.rest)))

pub returns-in_ok-ids-in-CloseParenthesis : goal.returns-in_ok-ids-in-CloseParenthesis
unfolding number_selector
returns-in_ok-ids-in-CloseParenthesis c = follows_then _ c.in_ok-token.ensures (follows_no _ (other_kind c.in-CloseParenthesis.is (λ e. cc)) (follows_yes _ c.in-CloseParenthesis.is (follows_then _ (c.in_ok-id-in-CloseParenthesis.ensures _) (follows_give (ap (λ (ids : List ℤ). Ids ids) (c.in_ok-ids-in-CloseParenthesis.ensures ∙ search rules)) refl))))

pub returns-in_default : goal.returns-in_default
unfolding number_selector
returns-in_default c = follows_then _ c.in_ok-token.ensures (follows_no _ c.in_default.not-Comma (follows_no _ c.in_default.not-CloseParenthesis (follows_unexpected _ c.unexpected.ensures)))
