use Rattle.ql_syntax.specs.declared.round.Round.{Round}
use Rattle.std.proofs.Common.{ap, refl}
use Rattle.ql_syntax.specs.Outs.{out_options}
use Rattle.ql_syntax.specs.internal.Views.{round_of}
use Rattle.ql_syntax.proofs.OutLengths.{out_round_shorter}
use Rattle.ql_syntax.proofs.RoundLemmas.{Start, follows_rounds, reaches_next}
use Rattle.ql_syntax.proofs.RuleLemmas.{follows_as, keeps_exit, read_of}
use Rattle.ql_syntax.proofs.out_options.read_out_options.Goals as goal

pub loop-round-init : goal.loop-round-init
loop-round-init c = Start

pub returns-in_err-round : goal.returns-in_err-round
unfolding out_options
returns-in_err-round c =
    follows_rounds c.loop-round.invariant (keeps_exit c.in_err-round.ensures c.from_residual.ensures.1)

pub returns-in-Done : goal.returns-in-Done
unfolding out_options
returns-in-Done c =
    follows_rounds c.loop-round.invariant (follows_as c.in_ok-round.ensures (ap (λ (round : Round). round_of round c.in_ok-round.seen) c.in-Done.is) refl)

pub loop-round-smaller : goal.loop-round-smaller
loop-round-smaller c = (out_round_shorter c.loop-round.options).below _ _ _ (read_of c.in_ok-round.ensures)

pub loop-round-preserved : goal.loop-round-preserved
loop-round-preserved c =
    reaches_next c.loop-round.invariant c.in_ok-round.ensures (ap (λ (round : Round). round_of round c.in_ok-round.seen) c.in-More.is)
