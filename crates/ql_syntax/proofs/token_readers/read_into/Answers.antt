use Rattle.ql_syntax.proofs.SpellingLemmas.{other_kind}
use Rattle.ql_syntax.proofs.RuleLemmas.{follows_give, follows_no, keeps_stop, follows_then, follows_unexpected, follows_yes}
use Rattle.ql_syntax.specs.TokenRules.{into}
use Rattle.std.proofs.Common.{refl}
use Rattle.ql_syntax.proofs.token_readers.read_into.Goals as goal

pub returns-in_err-token : goal.returns-in_err-token
unfolding into
returns-in_err-token c = keeps_stop _ c.in_err-token.ensures c.from_residual.ensures.1

pub returns-in_err-name-in-Arrow : goal.returns-in_err-name-in-Arrow
unfolding into
returns-in_err-name-in-Arrow c =
    follows_then _ c.in_ok-token.ensures (follows_yes _ c.in-Arrow.is (keeps_stop _ c.in_err-name-in-Arrow.ensures c.from_residual-in_err-name-in-Arrow.ensures.1))

pub returns-in_err-rest-in-Arrow : goal.returns-in_err-rest-in-Arrow
unfolding into
returns-in_err-rest-in-Arrow c =
    follows_then _ c.in_ok-token.ensures (follows_yes _ c.in-Arrow.is (follows_then _ c.in_ok-name-in-Arrow.ensures (keeps_stop _ c.in_err-rest-in-Arrow.ensures c.from_residual-in_err-rest-in-Arrow.ensures.1)))

pub returns-in_ok-rest-in-Arrow : goal.returns-in_ok-rest-in-Arrow
unfolding into
returns-in_ok-rest-in-Arrow c =
    follows_then _ c.in_ok-token.ensures (follows_yes _ c.in-Arrow.is (follows_then _ c.in_ok-name-in-Arrow.ensures (follows_then _ c.in_ok-rest-in-Arrow.ensures (follows_give refl refl))))

pub returns-in-Semicolon : goal.returns-in-Semicolon
unfolding into
returns-in-Semicolon c =
    follows_then _ c.in_ok-token.ensures (follows_no _ (other_kind c.in-Semicolon.is (λ e. cc)) (follows_yes _ c.in-Semicolon.is (follows_give c.default_set.ensures refl)))

pub returns-in_default : goal.returns-in_default
unfolding into
returns-in_default c =
    follows_then _ c.in_ok-token.ensures (follows_no _ c.in_default.not-Arrow (follows_no _ c.in_default.not-Semicolon (follows_unexpected _ c.unexpected.ensures)))
