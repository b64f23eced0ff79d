use Rattle.std.proofs.Common.{arith, refl}
use Rattle.std.proofs.lemmas.Grind.{common_steps}
use Rattle.ql_syntax.specs.internal.Following.{Read, Stopped}
use Rattle.ql_syntax.specs.TokenRules.{next_token}
use Rattle.ql_syntax.proofs.RuleLemmas.{stop_of}
use Rattle.ql_syntax.proofs.token.next_token.Goals as goal

pub returns-in_err-place : goal.returns-in_err-place
unfolding next_token
returns-in_err-place c = Stopped _ (stop_of _ _ c.from_residual.ensures.1) c.in_err-place.ensures.refused

pub returns : goal.returns
unfolding next_token
returns c = Read _ refl (record { after_gap = c.in_ok-place.ensures.read; kind_is = c.token_kind_at-kind.ensures; rest_is = grind (arith, common_steps) })
