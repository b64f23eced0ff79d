use Rattle.ql_syntax.proofs.SpellingLemmas.{other_kind}
use Rattle.std.proofs.Common.{refl}
use Rattle.ql_syntax.proofs.RuleLemmas.{follows_from, follows_give, follows_no, follows_stop, follows_then, follows_yes}
use Rattle.ql_syntax.specs.Selections.{a_filter}
use Rattle.ql_syntax.proofs.selection.read_filter.Goals as goal

pub returns-in_err-token : goal.returns-in_err-token
unfolding a_filter
returns-in_err-token c = follows_stop _ c.in_err-token.ensures c.from_residual.ensures.1

pub returns-in_err-name-in-Dot : goal.returns-in_err-name-in-Dot
unfolding a_filter
returns-in_err-name-in-Dot c = follows_then _ c.in_ok-token.ensures (follows_yes _ c.in-Dot.is (follows_stop _ c.in_err-name-in-Dot.ensures c.from_residual-in_err-name-in-Dot.ensures.1))

pub returns-in_err-filter-in-OpenBracket : goal.returns-in_err-filter-in-OpenBracket
unfolding a_filter
returns-in_err-filter-in-OpenBracket c = follows_then _ c.in_ok-token.ensures (follows_no _ (other_kind c.in-OpenBracket.is (λ e. cc)) (follows_yes _ c.in-OpenBracket.is (follows_stop _ c.in_err-filter-in-OpenBracket.ensures c.from_residual-in_err-filter-in-OpenBracket.ensures.1)))

pub returns-in_err-filter-in-OpenParenthesis : goal.returns-in_err-filter-in-OpenParenthesis
unfolding a_filter
returns-in_err-filter-in-OpenParenthesis c = follows_then _ c.in_ok-token.ensures (follows_no _ (other_kind c.in-OpenParenthesis.is (λ e. cc)) (follows_no _ (other_kind c.in-OpenParenthesis.is (λ e. cc)) (follows_yes _ c.in-OpenParenthesis.is (follows_stop _ c.in_err-filter-in-OpenParenthesis.ensures c.from_residual-in_err-filter-in-OpenParenthesis.ensures.1))))

pub returns-in_ok-name-in-Dot : goal.returns-in_ok-name-in-Dot
unfolding a_filter
returns-in_ok-name-in-Dot c = follows_then _ c.in_ok-token.ensures (follows_yes _ c.in-Dot.is (follows_then _ c.in_ok-name-in-Dot.ensures (follows_give refl refl)))

pub returns-in_ok-filter-in-OpenBracket : goal.returns-in_ok-filter-in-OpenBracket
unfolding a_filter
returns-in_ok-filter-in-OpenBracket c = follows_then _ c.in_ok-token.ensures (follows_no _ (other_kind c.in-OpenBracket.is (λ e. cc)) (follows_yes _ c.in-OpenBracket.is (follows_then _ c.in_ok-filter-in-OpenBracket.ensures (follows_give refl refl))))

pub returns-in_ok-filter-in-OpenParenthesis : goal.returns-in_ok-filter-in-OpenParenthesis
unfolding a_filter
returns-in_ok-filter-in-OpenParenthesis c = follows_then _ c.in_ok-token.ensures (follows_no _ (other_kind c.in-OpenParenthesis.is (λ e. cc)) (follows_no _ (other_kind c.in-OpenParenthesis.is (λ e. cc)) (follows_yes _ c.in-OpenParenthesis.is (follows_then _ c.in_ok-filter-in-OpenParenthesis.ensures (follows_give refl refl)))))

pub returns-in_default : goal.returns-in_default
unfolding a_filter
returns-in_default c = follows_then _ c.in_ok-token.ensures (follows_no _ c.in_default.not-Dot (follows_no _ c.in_default.not-OpenBracket (follows_no _ c.in_default.not-OpenParenthesis (follows_from (follows_give refl refl)))))
