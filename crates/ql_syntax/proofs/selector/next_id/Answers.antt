use Rattle.std.proofs.Common.{refl, rules}
use Rattle.ql_syntax.proofs.RuleLemmas.{follows_as, keeps_exit, keeps_stop, follows_then}
use Rattle.ql_syntax.specs.Selectors.{an_id}
use Rattle.ql_syntax.proofs.selector.next_id.Goals as goal

pub returns-in_err-number : goal.returns-in_err-number
unfolding an_id
returns-in_err-number c = keeps_stop _ c.in_err-number.ensures.follows c.from_residual.ensures.1

pub returns-in_err-id : goal.returns-in_err-id
unfolding an_id
returns-in_err-id c = follows_then _ c.in_ok-number.ensures.follows (keeps_exit (c.in_err-id.ensures _) c.from_residual-in_err-id.ensures.1)

pub returns : goal.returns
unfolding an_id
returns c = follows_then _ c.in_ok-number.ensures.follows (follows_as (c.in_ok-id.ensures _) (search rules) refl)
