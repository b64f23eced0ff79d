use Rattle.ql_syntax.proofs.RuleLemmas.{follows_stop, follows_then}
use Rattle.ql_syntax.specs.TagFilters.{tag_text}
use Rattle.ql_syntax.proofs.tag_filter.read_tag_text.Goals as goal

pub returns-in_err-next_token : goal.returns-in_err-next_token
unfolding tag_text
returns-in_err-next_token c = follows_stop _ c.in_err-next_token.ensures c.from_residual.ensures.1

pub returns : goal.returns
unfolding tag_text
returns c = follows_then _ c.in_ok-next_token.ensures c.tag_text_at.ensures
