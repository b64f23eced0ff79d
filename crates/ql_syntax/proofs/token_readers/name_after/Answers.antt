use Rattle.ql_syntax.proofs.RuleLemmas.{stop_of}
use Rattle.ql_syntax.specs.internal.Following.{Read, Stopped}
use Rattle.ql_syntax.specs.TokenRules.{name_after}
use Rattle.std.proofs.Common.{refl}
use Rattle.ql_syntax.proofs.token_readers.name_after.Goals as goal

pub returns-in_err-found : goal.returns-in_err-found
unfolding name_after
returns-in_err-found c = Stopped _ (stop_of _ _ c.from_residual.ensures.1) c.in_err-found.ensures.refused

pub returns : goal.returns
unfolding name_after
returns c = Read _ refl (rw c.new.ensures c.in_ok-found.ensures.name)
