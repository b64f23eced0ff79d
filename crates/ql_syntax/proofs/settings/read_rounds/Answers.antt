use Rattle.std.proofs.Common.{ap, refl}
use Rattle.ql_syntax.specs.declared.round.Round.{Round}
use Rattle.ql_syntax.specs.internal.Views.{round_of}
use Rattle.ql_syntax.proofs.RoundLemmas.{Start, follows_rounds, reaches_next}
use Rattle.ql_syntax.proofs.RuleLemmas.{follows_as, keeps_exit}
use Rattle.ql_syntax.proofs.settings.read_rounds.Goals as goal

pub loop-round-init : goal.loop-round-init
loop-round-init c = Start

pub returns-in_err-round : goal.returns-in_err-round
returns-in_err-round c =
    follows_rounds c.loop-round.invariant (keeps_exit c.in_err-round.ensures.follows c.from_residual.ensures.1)

pub returns-in-Done : goal.returns-in-Done
returns-in-Done c =
    follows_rounds c.loop-round.invariant (follows_as c.in_ok-round.ensures.follows (ap (λ (round : Round). round_of round c.in_ok-round.last) c.in-Done.is) refl)

pub loop-round-preserved : goal.loop-round-preserved
loop-round-preserved c =
    reaches_next c.loop-round.invariant c.in_ok-round.ensures.follows (ap (λ (round : Round). round_of round c.in_ok-round.last) c.in-More.is)
