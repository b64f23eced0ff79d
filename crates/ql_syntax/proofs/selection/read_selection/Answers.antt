use Rattle.std.proofs.Common.{refl}
use Rattle.ql_syntax.proofs.RuleLemmas.{follows_give, follows_stop, follows_then}
use Rattle.ql_syntax.specs.Selections.{selection}
use Rattle.ql_syntax.proofs.selection.read_selection.Goals as goal

pub returns-in_err-filters : goal.returns-in_err-filters
unfolding selection
returns-in_err-filters c = follows_stop _ c.in_err-filters.ensures c.from_residual.ensures.1

pub returns-in_err-into : goal.returns-in_err-into
unfolding selection
returns-in_err-into c = follows_then _ c.in_ok-filters.ensures (follows_stop _ c.in_err-into.ensures c.from_residual-in_err-into.ensures.1)

pub returns : goal.returns
unfolding selection
returns c = follows_then _ c.in_ok-filters.ensures (follows_then _ c.in_ok-into.ensures (follows_give refl refl))
