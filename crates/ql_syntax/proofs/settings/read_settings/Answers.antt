use Rattle.ql_syntax.proofs.RuleLemmas.{follows_from, follows_give, follows_no, keeps_stop, follows_then, follows_yes}
use Rattle.ql_syntax.specs.Settings.{settings}
use Rattle.std.proofs.Common.{refl}
use Rattle.ql_syntax.proofs.settings.read_settings.Goals as goal

pub returns-in_err-first : goal.returns-in_err-first
unfolding settings
returns-in_err-first c = keeps_stop _ c.in_err-first.ensures c.from_residual.ensures.1

pub returns-in-OpenBracket : goal.returns-in-OpenBracket
unfolding settings
returns-in-OpenBracket c =
    follows_then _ c.in_ok-first.ensures (follows_yes _ c.in-OpenBracket.is c.read_rounds.ensures)

pub returns-in_default : goal.returns-in_default
unfolding settings
returns-in_default c =
    follows_then _ c.in_ok-first.ensures (follows_no _ c.in_default.not-OpenBracket (follows_from (follows_give refl refl)))
