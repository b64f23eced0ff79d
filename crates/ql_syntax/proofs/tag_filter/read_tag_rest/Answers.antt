use Rattle.ql_syntax.proofs.SpellingLemmas.{other_kind}
use Rattle.ql_syntax.proofs.FilterLemmas.{follows_not_in_tag}
use Rattle.ql_syntax.proofs.RuleLemmas.{follows_give, follows_no, follows_stop, follows_then, follows_yes}
use Rattle.ql_syntax.specs.TagFilters.{tag_rest}
use Rattle.std.proofs.Common.{refl}
use Rattle.ql_syntax.proofs.tag_filter.read_tag_rest.Goals as goal

pub returns-in_err-token : goal.returns-in_err-token
unfolding tag_rest
returns-in_err-token c = follows_stop _ c.in_err-token.ensures c.from_residual.ensures.1

pub returns-in_err-value-in-Equal : goal.returns-in_err-value-in-Equal
unfolding tag_rest
returns-in_err-value-in-Equal c =
    follows_then _ c.in_ok-token.ensures (follows_no _ (other_kind c.in-Equal.is (λ e. cc)) (follows_yes _ c.in-Equal.is (follows_stop _ c.in_err-value-in-Equal.ensures c.from_residual-in_err-value-in-Equal.ensures.1)))

pub returns-in_err-value-in-NotEqual : goal.returns-in_err-value-in-NotEqual
unfolding tag_rest
returns-in_err-value-in-NotEqual c =
    follows_then _ c.in_ok-token.ensures (follows_no _ (other_kind c.in-NotEqual.is (λ e. cc)) (follows_no _ (other_kind c.in-NotEqual.is (λ e. cc)) (follows_yes _ c.in-NotEqual.is (follows_stop _ c.in_err-value-in-NotEqual.ensures c.from_residual-in_err-value-in-NotEqual.ensures.1))))

pub returns-in-CloseBracket : goal.returns-in-CloseBracket
unfolding tag_rest
returns-in-CloseBracket c =
    follows_then _ c.in_ok-token.ensures (follows_yes _ c.in-CloseBracket.is (follows_give refl refl))

pub returns-in-Equal : goal.returns-in-Equal
unfolding tag_rest
returns-in-Equal c =
    follows_then _ c.in_ok-token.ensures (follows_no _ (other_kind c.in-Equal.is (λ e. cc)) (follows_yes _ c.in-Equal.is (follows_then _ c.in_ok-value-in-Equal.ensures (follows_give refl refl))))

pub returns-in-NotEqual : goal.returns-in-NotEqual
unfolding tag_rest
returns-in-NotEqual c =
    follows_then _ c.in_ok-token.ensures (follows_no _ (other_kind c.in-NotEqual.is (λ e. cc)) (follows_no _ (other_kind c.in-NotEqual.is (λ e. cc)) (follows_yes _ c.in-NotEqual.is (follows_then _ c.in_ok-value-in-NotEqual.ensures (follows_give refl refl)))))

pub returns : goal.returns
unfolding tag_rest
returns c =
    follows_then _ c.in_ok-token.ensures (follows_no _ c.in_default.not-CloseBracket (follows_no _ c.in_default.not-Equal (follows_no _ c.in_default.not-NotEqual (follows_not_in_tag _ c.not_in_tag.ensures.cause c.not_in_tag.ensures.rest))))
