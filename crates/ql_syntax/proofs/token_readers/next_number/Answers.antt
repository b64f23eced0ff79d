use Rattle.ql_syntax.proofs.KindLemmas.{begins, neither}
use Rattle.ql_syntax.proofs.RuleLemmas.{follows_no, keeps_stop, follows_then, follows_unexpected, follows_yes}
use Rattle.ql_syntax.specs.TokenRules.{a_number}
use Rattle.ql_syntax.proofs.token_readers.next_number.Goals as goal

pub returns-in_err-token-clause-follows : goal.returns-in_err-token-clause-follows
unfolding a_number
returns-in_err-token-clause-follows c = keeps_stop _ c.in_err-token.ensures c.from_residual.ensures.1

pub returns-in-Number-clause-follows : goal.returns-in-Number-clause-follows
unfolding a_number
returns-in-Number-clause-follows c =
    follows_then _ c.in_ok-token.ensures (follows_yes _ (begins c.in-Number.is) c.number_at.ensures.follows)

pub returns-in_default-clause-follows : goal.returns-in_default-clause-follows
unfolding a_number
returns-in_default-clause-follows c =
    follows_then _ c.in_ok-token.ensures (follows_no _ (neither c.in_default.not-Number c.in_default.not-Minus) (follows_unexpected _ c.unexpected.ensures))
