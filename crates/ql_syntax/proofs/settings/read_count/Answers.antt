use Rattle.ql_syntax.proofs.RuleLemmas.{follows_give, keeps_stop, follows_then}
use Rattle.ql_syntax.specs.Settings.{count}
use Rattle.std.proofs.Common.{refl}
use Rattle.ql_syntax.proofs.settings.read_count.Goals as goal

pub returns-in_err-spot : goal.returns-in_err-spot
unfolding count
returns-in_err-spot c = keeps_stop _ c.in_err-spot.ensures.follows c.from_residual.ensures.1

pub returns-in_err-count : goal.returns-in_err-count
unfolding count
returns-in_err-count c =
    follows_then _ c.in_ok-spot.ensures.follows (keeps_stop _ (c.in_err-count.ensures _) c.from_residual-in_err-count.ensures.1)

pub returns : goal.returns
unfolding count
returns c =
    follows_then _ c.in_ok-spot.ensures.follows (follows_then _ (c.in_ok-count.ensures _) (follows_give refl refl))
