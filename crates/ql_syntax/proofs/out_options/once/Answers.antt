use Rattle.std.proofs.Common.{refl}
use Rattle.ql_syntax.proofs.OutLemmas.{follows_once}
use Rattle.ql_syntax.proofs.RuleLemmas.{follows_give, follows_refuse}
use Rattle.ql_syntax.proofs.out_options.once.Goals as goal

pub returns-then-stood : goal.returns-then-stood
returns-then-stood c = λ text. follows_once _ _ _ c.if-stood.true (follows_refuse c.at.ensures.cause c.at.ensures.rest)

pub returns-else-stood : goal.returns-else-stood
returns-else-stood c = λ text. follows_once _ _ _ c.if-stood.false (follows_give refl refl)
