use Rattle.ql_syntax.proofs.RuleLemmas.{follows_give, follows_stop, follows_then}
use Rattle.ql_syntax.specs.TagFilters.{tag_value}
use Rattle.std.proofs.Common.{refl}
use Rattle.ql_syntax.proofs.tag_filter.read_tag_value.Goals as goal

pub returns-in_err-value : goal.returns-in_err-value
unfolding tag_value
returns-in_err-value c = follows_stop _ c.in_err-value.ensures c.from_residual.ensures.1

pub returns-in_err-rest : goal.returns-in_err-rest
unfolding tag_value
returns-in_err-rest c =
    follows_then _ c.in_ok-value.ensures (follows_stop _ c.in_err-rest.ensures c.from_residual-in_err-rest.ensures.1)

pub returns : goal.returns
unfolding tag_value
returns c =
    follows_then _ c.in_ok-value.ensures (follows_then _ c.in_ok-rest.ensures (follows_give refl refl))
