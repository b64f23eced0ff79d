use Rattle.std.proofs.Common.{sym, refl}
use Rattle.ql_syntax.specs.Outs.{with_number}
use Rattle.ql_syntax.proofs.OutLemmas.{follows_once}
use Rattle.ql_syntax.proofs.RuleLemmas.{follows_give, keeps_stop, follows_then}
use Rattle.ql_syntax.proofs.out_options.OutOptions.with_number.Goals as goal

pub returns-in_err-once : goal.returns-in_err-once
unfolding with_number
returns-in_err-once c = λ text. keeps_stop _ (follows_once _ _ _ (sym c.is_some.ensures) (c.in_err-once.ensures text)) c.from_residual.ensures.1

pub returns-in_err-limit : goal.returns-in_err-limit
unfolding with_number
returns-in_err-limit c = λ text.
    follows_then _ (follows_once _ _ _ (sym c.is_some.ensures) (c.in_ok-once.ensures text)) (keeps_stop _ (c.in_err-limit.ensures text) c.from_residual-in_err-limit.ensures.1)

pub returns : goal.returns
unfolding with_number
returns c = λ text.
    follows_then _ (follows_once _ _ _ (sym c.is_some.ensures) (c.in_ok-once.ensures text)) (follows_then _ (c.in_ok-limit.ensures text) (follows_give refl refl))
