use Rattle.ql_syntax.proofs.RuleLemmas.{follows_case, follows_refuse, keeps_stop, follows_then}
use Rattle.ql_syntax.specs.Settings.{setting_value}
use Rattle.ql_syntax.proofs.settings.read_value.Goals as goal

pub returns-in_err-pass-in-Format : goal.returns-in_err-pass-in-Format
unfolding setting_value
returns-in_err-pass-in-Format c =
    follows_case _ c.in-Format.ensures (keeps_stop _ c.in_err-pass-in-Format.ensures c.from_residual.ensures.1)

pub returns-in_err-pass-in-Count : goal.returns-in_err-pass-in-Count
unfolding setting_value
returns-in_err-pass-in-Count c =
    follows_case _ c.in-Count.ensures (keeps_stop _ c.in_err-pass-in-Count.ensures c.from_residual-in_err-pass-in-Count.ensures.1)

pub returns-in_ok-pass-in-Format : goal.returns-in_ok-pass-in-Format
unfolding setting_value
returns-in_ok-pass-in-Format c =
    follows_case _ c.in-Format.ensures (follows_then _ c.in_ok-pass-in-Format.ensures c.read_format.ensures)

pub returns-in_ok-pass-in-Count : goal.returns-in_ok-pass-in-Count
unfolding setting_value
returns-in_ok-pass-in-Count c =
    follows_case _ c.in-Count.ensures (follows_then _ c.in_ok-pass-in-Count.ensures c.read_count.ensures)

pub returns-in-Unsupported : goal.returns-in-Unsupported
unfolding setting_value
returns-in-Unsupported c = follows_case _ c.in-Unsupported.ensures (follows_refuse c.at.ensures.cause c.at.ensures.rest)

pub returns-in-Unknown : goal.returns-in-Unknown
unfolding setting_value
returns-in-Unknown c =
    follows_case _ c.in-Unknown.ensures (follows_refuse c.at-in-Unknown.ensures.cause c.at-in-Unknown.ensures.rest)
