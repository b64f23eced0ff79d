use Rattle.ql_syntax.proofs.RuleLemmas.{follows_give, follows_no, follows_stop, follows_then, follows_yes}
use Rattle.ql_syntax.specs.TagFilters.{tag_filter}
use Rattle.std.proofs.Common.{refl}
use Rattle.ql_syntax.proofs.tag_filter.read_tag_filter.Goals as goal

pub returns-in_err-token : goal.returns-in_err-token
unfolding tag_filter
returns-in_err-token c = follows_stop _ c.in_err-token.ensures c.from_residual.ensures.1

pub returns-in_err-key-in-Not : goal.returns-in_err-key-in-Not
unfolding tag_filter
returns-in_err-key-in-Not c =
    follows_then _ c.in_ok-token.ensures (follows_yes _ c.in-Not.is (follows_stop _ c.in_err-key-in-Not.ensures c.from_residual-in_err-key-in-Not.ensures.1))

pub returns-in_ok-key-in-Not : goal.returns-in_ok-key-in-Not
unfolding tag_filter
returns-in_ok-key-in-Not c =
    follows_then _ c.in_ok-token.ensures (follows_yes _ c.in-Not.is (follows_then _ c.in_ok-key-in-Not.ensures (follows_give refl refl)))

pub returns-in_err-key-in_default : goal.returns-in_err-key-in_default
unfolding tag_filter
returns-in_err-key-in_default c =
    follows_then _ c.in_ok-token.ensures (follows_no _ c.in_default.not-Not (follows_stop _ c.in_err-key-in_default.ensures c.from_residual-in_err-key-in_default.ensures.1))

pub returns-in_ok-key-in_default : goal.returns-in_ok-key-in_default
unfolding tag_filter
returns-in_ok-key-in_default c =
    follows_then _ c.in_ok-token.ensures (follows_no _ c.in_default.not-Not (follows_then _ c.in_ok-key-in_default.ensures c.read_tag_rest.ensures))
