use Rattle.std.proofs.Common.{refl}
use Rattle.ql_syntax.proofs.RuleLemmas.{follows_give, keeps_stop, follows_then}
use Rattle.ql_syntax.specs.Settings.{setting}
use Rattle.ql_syntax.proofs.settings.read_setting.Goals as goal

pub returns-in_err-name : goal.returns-in_err-name
unfolding setting
returns-in_err-name c = keeps_stop _ c.in_err-name.ensures c.from_residual.ensures.1

pub returns-in_err-asked : goal.returns-in_err-asked
unfolding setting
returns-in_err-asked c =
    follows_then _ c.in_ok-name.ensures (keeps_stop _ c.in_err-asked.ensures c.from_residual-in_err-asked.ensures.1)

pub returns-in_err-after : goal.returns-in_err-after
unfolding setting
returns-in_err-after c =
    follows_then _ c.in_ok-name.ensures (follows_then _ c.in_ok-asked.ensures (keeps_stop _ c.in_err-after.ensures c.from_residual-in_err-after.ensures.1))

pub returns : goal.returns
unfolding setting
returns c =
    follows_then _ c.in_ok-name.ensures (follows_then _ c.in_ok-asked.ensures (follows_then _ c.in_ok-after.ensures (follows_give refl refl)))
