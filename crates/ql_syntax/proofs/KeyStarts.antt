-- What begins as a key or a value is no `!`.
use Rattle.std.proofs.Common.{◌≡◌, ℕ, List, [], ◌∷◌, ◌==◌, ◌||◌, Bool, true, false, cond, refl, subst}
use Rattle.std.proofs.lemmas.Bool.{eqb-true}
use Rattle.std.specs.Char.{is_ascii_digit}
use Rattle.ql_syntax.specs.QuotedTexts.{is_quote}
use Rattle.ql_syntax.specs.TokenKinds.{token_kind_at, token_kind_from, one_byte_kind, kind_after_minus, kind_after_not}
use Rattle.ql_syntax.specs.Words.{begins_with, is_word_start, is_run_byte}
use Rattle.ql_syntax.specs.declared.token_kind.TokenKind.{TokenKind}
use Rattle.ql_syntax.specs.declared.token_kind.TokenKind.TheVariants as kinds

-- of two kinds the one that a test chooses is `!`
chosen : (P : Type 0) (test : Bool) (x y : TokenKind) → (test ≡ true → x ≡ kinds.Not → P) → (y ≡ kinds.Not → P) → cond test x y ≡ kinds.Not → P
chosen P true x y f g e = f refl e
chosen P false x y f g e = g e

module _ (P : Type 0) where
  no_single : (b : ℕ) → one_byte_kind b ≡ kinds.Not → P
  no_single b = chosen P _ kinds.OpenBracket _ (λ t e. absurd (cc)) (chosen P _ kinds.CloseBracket _ (λ t e. absurd (cc)) (chosen P _ kinds.OpenParenthesis _ (λ t e. absurd (cc)) (chosen P _ kinds.CloseParenthesis _ (λ t e. absurd (cc)) (chosen P _ kinds.Semicolon _ (λ t e. absurd (cc)) (chosen P _ kinds.Comma _ (λ t e. absurd (cc)) (chosen P _ kinds.Colon _ (λ t e. absurd (cc)) (chosen P _ kinds.Equal _ (λ t e. absurd (cc)) (chosen P _ kinds.Dot _ (λ t e. absurd (cc)) (chosen P _ kinds.Tilde kinds.Other (λ t e. absurd (cc)) (λ e. absurd (cc)))))))))))

only_bang : (b : ℕ) (s : List ℕ) → token_kind_from b s ≡ kinds.Not → b ≡ 33
only_bang b s =
    chosen _ (is_word_start b) kinds.Word _ (λ t e. absurd (cc)) (chosen _ (is_ascii_digit b) kinds.Number _ (λ t e. absurd (cc)) (chosen _ (is_quote b) kinds.Quote _ (λ t e. absurd (cc))
    (chosen _ (b == 45) (kind_after_minus s) _ (λ t. chosen _ _ kinds.Arrow _ (λ t e. absurd (cc)) (chosen _ _ kinds.Number kinds.Minus (λ t e. absurd (cc)) (λ e. absurd (cc))))
    (chosen _ (b == 33) (kind_after_not s) _ (λ t e. eqb-true b 33 t)
    (chosen _ (b == 62) (cond (begins_with (λ b. b == 62) s) kinds.DownAll kinds.Down) _ (λ t. chosen _ _ kinds.DownAll kinds.Down (λ t e. absurd (cc)) (λ e. absurd (cc)))
    (chosen _ (b == 60) (cond (begins_with (λ b. b == 60) s) kinds.UpAll kinds.Up) (one_byte_kind b) (λ t. chosen _ _ kinds.UpAll kinds.Up (λ t e. absurd (cc)) (λ e. absurd (cc))) (no_single _ b)))))))

pub no_quote : (place : List ℕ) → token_kind_at place ≡ kinds.Not → begins_with is_quote place ≡ true → ⊥
no_quote [] is starts = cc
no_quote (b ∷ s) is starts = let bad : is_quote 33 ≡ true = subst (λ (n : ℕ). is_quote n ≡ true) (only_bang b s is) starts in cc

pub no_run : (place : List ℕ) → token_kind_at place ≡ kinds.Not → begins_with is_run_byte place ≡ true → ⊥
no_run [] is starts = cc
no_run (b ∷ s) is starts = let bad : is_run_byte 33 ≡ true = subst (λ (n : ℕ). is_run_byte n ≡ true) (only_bang b s is) starts in cc

-- no byte is a quote, and one of a run
is_two : (b : ℕ) (test other : Bool) → (b == 34) ≡ test → (b == 39) ≡ other → (test || other) ≡ true → is_run_byte b ≡ true → ⊥
is_two b true other e f g run = let same : b ≡ 34 = eqb-true b 34 e in let bad : is_run_byte 34 ≡ true = subst (λ (n : ℕ). is_run_byte n ≡ true) same run in cc
is_two b false true e f g run = let same : b ≡ 39 = eqb-true b 39 f in let bad : is_run_byte 39 ≡ true = subst (λ (n : ℕ). is_run_byte n ≡ true) same run in cc
is_two b false false e f g run = cc

pub quote_or_run : (place : List ℕ) → begins_with is_run_byte place ≡ true → begins_with is_quote place ≡ true → ⊥
quote_or_run [] run quote = cc
quote_or_run (b ∷ s) run quote = is_two b (b == 34) (b == 39) refl refl quote run
