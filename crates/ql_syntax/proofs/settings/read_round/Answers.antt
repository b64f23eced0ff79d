use Rattle.ql_syntax.proofs.SpellingLemmas.{other_kind}
use Rattle.ql_syntax.proofs.RuleLemmas.{follows_give, follows_no, keeps_stop, follows_then, follows_unexpected, follows_yes, read_of}
use Rattle.ql_syntax.proofs.SettingLengths.{round_shorter}
use Rattle.ql_syntax.specs.Settings.{setting_round}
use Rattle.std.proofs.Common.{Option, ap, refl}
use Rattle.ql_syntax.specs.Rules.{More, Done}
use Rattle.ql_syntax.specs.declared.format.Format.{Format}
use Rattle.ql_syntax.proofs.settings.read_round.Goals as goal

pub returns-in_err-found-clause-follows : goal.returns-in_err-found-clause-follows
unfolding setting_round
returns-in_err-found-clause-follows c = keeps_stop _ c.in_err-found.ensures c.from_residual.ensures.1

pub returns-in_err-token-clause-follows : goal.returns-in_err-token-clause-follows
unfolding setting_round
returns-in_err-token-clause-follows c =
    follows_then _ c.in_ok-found.ensures (keeps_stop _ c.in_err-token.ensures c.from_residual-in_err-token.ensures.1)

pub returns-in-OpenBracket-clause-follows : goal.returns-in-OpenBracket-clause-follows
unfolding setting_round
returns-in-OpenBracket-clause-follows c =
    follows_then _ c.in_ok-found.ensures (follows_then _ c.in_ok-token.ensures (follows_yes _ c.in-OpenBracket.is (follows_give (ap (λ (f : Option Format). More f) c.or.ensures) refl)))

pub returns-in-OpenBracket-clause-shorter : goal.returns-in-OpenBracket-clause-shorter
unfolding setting_round
returns-in-OpenBracket-clause-shorter c = (round_shorter c.args.asked).below _ _ _ (read_of (returns-in-OpenBracket-clause-follows c))

pub returns-in-Semicolon-clause-follows : goal.returns-in-Semicolon-clause-follows
unfolding setting_round
returns-in-Semicolon-clause-follows c =
    follows_then _ c.in_ok-found.ensures (follows_then _ c.in_ok-token.ensures (follows_no _ (other_kind c.in-Semicolon.is (λ e. cc)) (follows_yes _ c.in-Semicolon.is (follows_give (ap (λ (f : Option Format). Done f) c.or-in-Semicolon.ensures) refl))))

pub returns-in-Semicolon-clause-shorter : goal.returns-in-Semicolon-clause-shorter
unfolding setting_round
returns-in-Semicolon-clause-shorter c = (round_shorter c.args.asked).below _ _ _ (read_of (returns-in-Semicolon-clause-follows c))

pub returns-in_default-clause-follows : goal.returns-in_default-clause-follows
unfolding setting_round
returns-in_default-clause-follows c =
    follows_then _ c.in_ok-found.ensures (follows_then _ c.in_ok-token.ensures (follows_no _ c.in_default.not-OpenBracket (follows_no _ c.in_default.not-Semicolon (follows_unexpected _ c.unexpected.ensures))))
