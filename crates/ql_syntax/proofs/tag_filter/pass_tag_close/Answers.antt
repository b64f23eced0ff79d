use Rattle.ql_syntax.proofs.FilterLemmas.{follows_not_in_tag}
use Rattle.ql_syntax.proofs.RuleLemmas.{follows_give, follows_no, keeps_stop, follows_then, follows_yes}
use Rattle.ql_syntax.specs.TagFilters.{tag_close}
use Rattle.std.proofs.Common.{refl}
use Rattle.ql_syntax.proofs.tag_filter.pass_tag_close.Goals as goal

pub returns-in_err-token : goal.returns-in_err-token
unfolding tag_close
returns-in_err-token c = keeps_stop _ c.in_err-token.ensures c.from_residual.ensures.1

pub returns-in-CloseBracket : goal.returns-in-CloseBracket
unfolding tag_close
returns-in-CloseBracket c =
    follows_then _ c.in_ok-token.ensures (follows_yes _ c.in-CloseBracket.is (follows_give refl refl))

pub returns-in_default : goal.returns-in_default
unfolding tag_close
returns-in_default c =
    follows_then _ c.in_ok-token.ensures (follows_no _ c.in_default.not-CloseBracket (follows_not_in_tag _ c.not_in_tag.ensures.cause c.not_in_tag.ensures.rest))
