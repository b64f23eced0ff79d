use Rattle.ql_syntax.proofs.RuleLemmas.{follows_no, keeps_stop, follows_then, follows_unexpected, follows_yes}
use Rattle.ql_syntax.specs.TokenRules.{a_word}
use Rattle.ql_syntax.proofs.token_readers.next_word.Goals as goal

pub returns-in_err-token : goal.returns-in_err-token
unfolding a_word
returns-in_err-token c = keeps_stop _ c.in_err-token.ensures c.from_residual.ensures.1

pub returns-in-Word : goal.returns-in-Word
unfolding a_word
returns-in-Word c =
    follows_then _ c.in_ok-token.ensures (follows_yes _ c.in-Word.is (c.word_at.ensures))

pub returns-in_default : goal.returns-in_default
unfolding a_word
returns-in_default c =
    follows_then _ c.in_ok-token.ensures (follows_no _ c.in_default.not-Word (follows_unexpected _ c.unexpected.ensures))
