use Rattle.std.proofs.Common.{sym}
use Rattle.ql_syntax.specs.Outs.{with_word}
use Rattle.ql_syntax.proofs.OutLemmas.{follows_once}
use Rattle.ql_syntax.proofs.RuleLemmas.{follows_case, follows_refuse}
use Rattle.ql_syntax.proofs.out_options.OutOptions.with_word.Goals as goal

pub returns-in-Mode : goal.returns-in-Mode
unfolding with_word
returns-in-Mode c = λ text. follows_case _ c.in-Mode.ensures (follows_once _ _ _ (sym c.is_some.ensures) (c.once.ensures text))

pub returns-in-Order : goal.returns-in-Order
unfolding with_word
returns-in-Order c = λ text. follows_case _ c.in-Order.ensures (c.once-in-Order.ensures text)

pub returns-in-Unsupported : goal.returns-in-Unsupported
unfolding with_word
returns-in-Unsupported c = λ text. follows_case _ c.in-Unsupported.ensures (follows_refuse c.at.ensures.cause c.at.ensures.rest)

pub returns-in-Unknown : goal.returns-in-Unknown
unfolding with_word
returns-in-Unknown c = λ text. follows_case _ c.in-Unknown.ensures (follows_refuse c.at-in-Unknown.ensures.cause c.at-in-Unknown.ensures.rest)
