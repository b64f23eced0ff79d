use Rattle.ql_syntax.proofs.RuleLemmas.{keeps_stop, follows_then}
use Rattle.ql_syntax.specs.Selectors.{corner}
use Rattle.ql_syntax.proofs.area.next_corner.Goals as goal

pub returns-in_err-rest-clause-follows : goal.returns-in_err-rest-clause-follows
unfolding corner
returns-in_err-rest-clause-follows c = keeps_stop _ c.in_err-rest.ensures c.from_residual.ensures.1

pub returns-clause-follows : goal.returns-clause-follows
unfolding corner
returns-clause-follows c = follows_then _ c.in_ok-rest.ensures c.next_number.ensures.follows
