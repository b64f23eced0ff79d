use Rattle.ql_syntax.proofs.KindLemmas.{begins, neither, no_word}
use Rattle.ql_syntax.proofs.RuleLemmas.{follows_no, follows_stop, follows_then, follows_unexpected, follows_yes}
use Rattle.ql_syntax.specs.Selectors.{selector}
use Rattle.ql_syntax.proofs.selector.read_selector.Goals as goal

pub returns-in_err-token : goal.returns-in_err-token
unfolding selector
returns-in_err-token c = follows_stop _ c.in_err-token.ensures c.from_residual.ensures.1

pub returns-in_err-number_at-in-Number : goal.returns-in_err-number_at-in-Number
unfolding selector
returns-in_err-number_at-in-Number c = follows_then _ c.in_ok-token.ensures (follows_no _ (no_word c.in-Number.is) (follows_yes _ (begins c.in-Number.is) (follows_stop _ c.in_err-number_at-in-Number.ensures.follows c.from_residual-in_err-number_at-in-Number.ensures.1)))

pub returns-in-Word : goal.returns-in-Word
unfolding selector
returns-in-Word c = follows_then _ c.in_ok-token.ensures (follows_yes _ c.in-Word.is (follows_then _ c.word_at.ensures c.read_word_selector.ensures))

pub returns-in_ok-number_at-in-Number : goal.returns-in_ok-number_at-in-Number
unfolding selector
returns-in_ok-number_at-in-Number c = follows_then _ c.in_ok-token.ensures (follows_no _ (no_word c.in-Number.is) (follows_yes _ (begins c.in-Number.is) (follows_then _ c.in_ok-number_at-in-Number.ensures.follows c.read_number_selector.ensures)))

pub returns-in_default : goal.returns-in_default
unfolding selector
returns-in_default c = follows_then _ c.in_ok-token.ensures (follows_no _ c.in_default.not-Word (follows_no _ (neither c.in_default.not-Number c.in_default.not-Minus) (follows_unexpected _ c.unexpected.ensures)))
