use Rattle.ql_syntax.proofs.KindLemmas.{begins, neither, no_number, no_word}
use Rattle.ql_syntax.proofs.SpellingLemmas.{other_kind}
use Rattle.ql_syntax.proofs.RuleLemmas.{follows_give, follows_no, follows_refuse, keeps_stop, follows_then, follows_unexpected, follows_yes}
use Rattle.ql_syntax.specs.Outs.{out_round}
use Rattle.std.proofs.Common.{refl}
use Rattle.ql_syntax.proofs.out_options.read_round.Goals as goal

pub returns-in_err-token : goal.returns-in_err-token
unfolding out_round
returns-in_err-token c = keeps_stop _ c.in_err-token.ensures c.from_residual.ensures.1

pub returns-in_err-more-in-Word : goal.returns-in_err-more-in-Word
unfolding out_round
returns-in_err-more-in-Word c =
    follows_then _ c.in_ok-token.ensures (follows_yes _ c.in-Word.is (follows_then _ c.word_at-word.ensures (keeps_stop _ (c.in_err-more-in-Word.ensures _) c.from_residual-in_err-more-in-Word.ensures.1)))

pub returns-in_err-number-in-Number : goal.returns-in_err-number-in-Number
unfolding out_round
returns-in_err-number-in-Number c =
    follows_then _ c.in_ok-token.ensures (follows_no _ (no_word c.in-Number.is) (follows_yes _ (begins c.in-Number.is) (keeps_stop _ c.in_err-number-in-Number.ensures.follows c.from_residual-in_err-number-in-Number.ensures.1)))

pub returns-in_err-more-in-Number : goal.returns-in_err-more-in-Number
unfolding out_round
returns-in_err-more-in-Number c =
    follows_then _ c.in_ok-token.ensures (follows_no _ (no_word c.in-Number.is) (follows_yes _ (begins c.in-Number.is) (follows_then _ c.in_ok-number-in-Number.ensures.follows (keeps_stop _ (c.in_err-more-in-Number.ensures _) c.from_residual-in_err-more-in-Number.ensures.1))))

pub returns-in_ok-more-in-Word : goal.returns-in_ok-more-in-Word
unfolding out_round
returns-in_ok-more-in-Word c =
    follows_then _ c.in_ok-token.ensures (follows_yes _ c.in-Word.is (follows_then _ c.word_at-word.ensures (follows_then _ (c.in_ok-more-in-Word.ensures _) (follows_give refl refl))))

pub returns-in_ok-more-in-Number : goal.returns-in_ok-more-in-Number
unfolding out_round
returns-in_ok-more-in-Number c =
    follows_then _ c.in_ok-token.ensures (follows_no _ (no_word c.in-Number.is) (follows_yes _ (begins c.in-Number.is) (follows_then _ c.in_ok-number-in-Number.ensures.follows (follows_then _ (c.in_ok-more-in-Number.ensures _) (follows_give refl refl)))))

pub returns-in-OpenParenthesis : goal.returns-in-OpenParenthesis
unfolding out_round
returns-in-OpenParenthesis c =
    follows_then _ c.in_ok-token.ensures (follows_no _ (other_kind c.in-OpenParenthesis.is (λ e. cc)) (follows_no _ (no_number _ refl c.in-OpenParenthesis.is) (follows_yes _ c.in-OpenParenthesis.is (follows_refuse c.at.ensures.cause c.at.ensures.rest))))

pub returns-in-Semicolon : goal.returns-in-Semicolon
unfolding out_round
returns-in-Semicolon c =
    follows_then _ c.in_ok-token.ensures (follows_no _ (other_kind c.in-Semicolon.is (λ e. cc)) (follows_no _ (no_number _ refl c.in-Semicolon.is) (follows_no _ (other_kind c.in-Semicolon.is (λ e. cc)) (follows_yes _ c.in-Semicolon.is (follows_give refl refl)))))

pub returns-in_default : goal.returns-in_default
unfolding out_round
returns-in_default c =
    follows_then _ c.in_ok-token.ensures (follows_no _ c.in_default.not-Word (follows_no _ (neither c.in_default.not-Number c.in_default.not-Minus) (follows_no _ c.in_default.not-OpenParenthesis (follows_no _ c.in_default.not-Semicolon (follows_unexpected _ c.unexpected.ensures)))))
