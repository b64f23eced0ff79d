use Rattle.ql_syntax.proofs.RuleLemmas.{follows_case, follows_give, follows_refuse, keeps_stop, follows_then}
use Rattle.ql_syntax.specs.Settings.{format}
use Rattle.std.proofs.Common.{refl}
use Rattle.ql_syntax.proofs.settings.read_format.Goals as goal

pub returns-in_err-found : goal.returns-in_err-found
unfolding format
returns-in_err-found c = keeps_stop _ c.in_err-found.ensures c.from_residual.ensures.1

pub returns-in-Known : goal.returns-in-Known
unfolding format
returns-in-Known c =
    follows_then _ c.in_ok-found.ensures (follows_case _ c.in-Known.ensures (follows_give refl refl))

pub returns-in-Unsupported : goal.returns-in-Unsupported
unfolding format
returns-in-Unsupported c =
    follows_then _ c.in_ok-found.ensures (follows_case _ c.in-Unsupported.ensures (follows_refuse c.at.ensures.cause c.at.ensures.rest))

pub returns-in-Unknown : goal.returns-in-Unknown
unfolding format
returns-in-Unknown c =
    follows_then _ c.in_ok-found.ensures (follows_case _ c.in-Unknown.ensures (follows_refuse c.at-in-Unknown.ensures.cause c.at-in-Unknown.ensures.rest))
