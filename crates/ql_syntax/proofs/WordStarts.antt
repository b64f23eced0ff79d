-- What begins as a word.
use Rattle.std.specs.Prelude.{if◌then◌else◌}
use Rattle.std.proofs.Common.{◌≡◌, ℕ, ◌<◌, List, [], ◌∷◌, ◌==◌, Bool, true, false, cond, refl, sym, ◌∙◌, ap, arith, length, length-append}
use Rattle.std.proofs.lemmas.Grind.{common_steps}
use Rattle.std.specs.Char.{is_ascii_digit}
use Rattle.ql_syntax.specs.QuotedTexts.{is_quote}
use Rattle.ql_syntax.specs.TokenKinds.{token_kind_at, one_byte_kind, kind_after_minus, kind_after_not}
use Rattle.ql_syntax.specs.Words.{IsRun, begins_with, is_word_start, is_run_byte}
use Rattle.ql_syntax.specs.declared.token_kind.TokenKind.{TokenKind}
use Rattle.ql_syntax.specs.declared.token_kind.TokenKind.TheVariants as kinds

-- of two tests the one that fails is not the sign of a word
neither : (b : Bool) (x y : TokenKind) → (x ≡ kinds.Word → ⊥) → (y ≡ kinds.Word → ⊥) → cond b x y ≡ kinds.Word → ⊥
neither true x y h k e = h e
neither false x y h k e = k e

no_single : (b : ℕ) → one_byte_kind b ≡ kinds.Word → ⊥
no_single b = neither _ kinds.OpenBracket _ (λ e. cc) (neither _ kinds.CloseBracket _ (λ e. cc) (neither _ kinds.OpenParenthesis _ (λ e. cc) (neither _ kinds.CloseParenthesis _ (λ e. cc) (neither _ kinds.Semicolon _ (λ e. cc) (neither _ kinds.Comma _ (λ e. cc) (neither _ kinds.Colon _ (λ e. cc) (neither _ kinds.Equal _ (λ e. cc) (neither _ kinds.Dot _ (λ e. cc) (neither _ kinds.Tilde kinds.Other (λ e. cc) (λ e. cc))))))))))

no_kind_after_minus : (s : List ℕ) → kind_after_minus s ≡ kinds.Word → ⊥
no_kind_after_minus s = neither _ kinds.Arrow _ (λ e. cc) (neither _ kinds.Number kinds.Minus (λ e. cc) (λ e. cc))

no_kind_after_not : (s : List ℕ) → kind_after_not s ≡ kinds.Word → ⊥
no_kind_after_not s = neither _ kinds.NotEqual _ (λ e. cc) (neither _ kinds.NotTilde kinds.Not (λ e. cc) (λ e. cc))

-- what begins where no word does
abbrev other_kind : ℕ → List ℕ → TokenKind
other_kind b after =
    if is_ascii_digit b then kinds.Number
    else if is_quote b then kinds.Quote
    else if b == 45 then kind_after_minus after
    else if b == 33 then kind_after_not after
    else if b == 62 then (if begins_with (λ b. b == 62) after then kinds.DownAll else kinds.Down)
    else if b == 60 then (if begins_with (λ b. b == 60) after then kinds.UpAll else kinds.Up)
    else one_byte_kind b

-- what begins otherwise than a word is none
no_word_at : (start : Bool) (b : ℕ) (s : List ℕ) → start ≡ false → cond start kinds.Word (other_kind b s) ≡ kinds.Word → ⊥
no_word_at true b s none e = absurd (let bad : true ≡ false = none in cc)
no_word_at false b s none e =
    neither _ kinds.Number _ (λ e. cc) (neither _ kinds.Quote _ (λ e. cc) (neither _ (kind_after_minus s) _ (no_kind_after_minus s) (neither _ (kind_after_not s) _ (no_kind_after_not s)
    (neither _ (cond (begins_with (λ b. b == 62) s) kinds.DownAll kinds.Down) _ (neither _ kinds.DownAll kinds.Down (λ e. cc) (λ e. cc))
    (neither _ (cond (begins_with (λ b. b == 60) s) kinds.UpAll kinds.Up) (one_byte_kind b) (neither _ kinds.UpAll kinds.Up (λ e. cc) (λ e. cc)) (no_single b)))))) e

pub no_word : (place : List ℕ) → begins_with is_word_start place ≡ false → token_kind_at place ≡ kinds.Word → ⊥
no_word [] none e = absurd (cc)
no_word (b ∷ s) none e = no_word_at (is_word_start b) b s none e

pub a_word_byte : (b : ℕ) → is_word_start b ≡ true → is_run_byte b ≡ true
a_word_byte b starts = grind (arith, common_steps)

run_some : (place run rest : List ℕ) → begins_with is_word_start place ≡ true → IsRun place run rest → length rest < length place
run_some [] run rest starts is = absurd (let e = starts in cc)
run_some (b ∷ s) [] rest starts is =
    let same : begins_with is_run_byte (b ∷ s) ≡ false = ap (λ (x : List ℕ). begins_with is_run_byte x) is.parts ∙ is.longest in
    let bad : true ≡ false = sym (a_word_byte b starts) ∙ same in
    absurd (cc)
run_some (b ∷ s) (x ∷ run) rest starts is = let n = ap (λ (x : List ℕ). length x) is.parts in omega (arith, length-append (x ∷ run) rest)

-- a run at a token that is a word leaves less
pub word_shorter : (place run rest : List ℕ) → kinds.Word ≡ token_kind_at place → IsRun place run rest → length rest < length place
word_shorter place run rest is runs = tested (begins_with is_word_start place) refl
  where
    tested : (b : Bool) → begins_with is_word_start place ≡ b → length rest < length place
    tested true e = run_some place run rest e runs
    tested false e = absurd (no_word place e (sym is))
