use Rattle.ql_syntax.proofs.RuleLemmas.{follows_no, keeps_stop, follows_then, follows_unexpected, follows_yes}
use Rattle.ql_syntax.specs.TokenRules.{a_name}
use Rattle.ql_syntax.proofs.token_readers.next_name.Goals as goal

pub returns-in_err-token : goal.returns-in_err-token
unfolding a_name
returns-in_err-token c = keeps_stop _ c.in_err-token.ensures c.from_residual.ensures.1

pub returns-in-Dot : goal.returns-in-Dot
unfolding a_name
returns-in-Dot c =
    follows_then _ c.in_ok-token.ensures (follows_yes _ c.in-Dot.is (c.name_after.ensures))

pub returns-in_default : goal.returns-in_default
unfolding a_name
returns-in_default c =
    follows_then _ c.in_ok-token.ensures (follows_no _ c.in_default.not-Dot (follows_unexpected _ c.unexpected.ensures))
