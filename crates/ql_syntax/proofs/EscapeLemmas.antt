-- Escapes, from their parts.
use Rattle.std.proofs.Common.{◌≡◌, ◌≢◌, ℕ, zero, suc, ◌^◌, ◌<◌, ◌≤◌, List, [], ◌∷◌, ◌++◌, length, get_or, take, drop, None, Some, refl, sym, ◌∙◌, ap, subst, arith, drop-cons, lit≤}
use Rattle.std.specs.Prelude.{encode_utf8}
use Rattle.std.specs.Char.{digit_value, IsScalar}
use Rattle.std.specs.Str.Parse.{AllDigits, digits_value}
use Rattle.std.proofs.lemmas.Int.Digits.{digits_value-lt}
use Rattle.std.proofs.lemmas.List.{take-append-drop, length-take-le}
use Rattle.std.proofs.lemmas.Str.{encode_ascii}
use Rattle.std.proofs.lemmas.Bool.Decides.{nat_tests}
use Rattle.ql_syntax.specs.QuotedTexts.{Escape, Code, IsBadEscape, Letter, NoDigit, NoCharacter, escaped}
use Rattle.ql_syntax.specs.internal.EscapeParts.{IsEscape}

-- a few hexadecimal digits make a small number
pub few_digits : (text : List ℕ) (n number : ℕ) → n < 4 → n ≤ length text → AllDigits 16 (take n text) → number ≡ digits_value 16 (take n text) → number < 4096
few_digits text n number few within digits is =
    omega (arith, digits_value-lt 16 (take n text) digits, small (length (take n text)) (omega (arith, length-take-le n text within)))
  where
    small : (k : ℕ) → k < 4 → 16 ^ k ≤ 4096
    small zero lt = lit≤ tt
    small (suc zero) lt = lit≤ tt
    small (suc (suc zero)) lt = lit≤ tt
    small (suc (suc (suc zero))) lt = lit≤ tt
    small (suc (suc (suc (suc k)))) lt = absurd (omega arith)

-- a letter after `\`
escaped_small : (letter b : ℕ) → escaped letter ≡ Some b → b < 128
escaped_small letter b e = grind (arith, nat_tests)

pub letter_escape : (after : List ℕ) (b : ℕ) → 1 ≤ length after → escaped (get_or after 0 0) ≡ Some b → IsEscape after (encode_utf8 b) (drop 1 after)
letter_escape [] b some e = absurd (omega arith)
letter_escape (letter ∷ rest) b some e = record { piece = Escape letter b; is_piece = λ quote. e; spelled = refl; bytes_are = encode_ascii b (escaped_small letter b e) }

pub bad_letter : (after : List ℕ) → 1 ≤ length after → get_or after 0 0 ≢ 117 → escaped (get_or after 0 0) ≡ None → IsBadEscape after
bad_letter [] some other e = absurd (omega arith)
bad_letter (letter ∷ rest) some other e = Letter letter rest refl other e

-- digits after `\u`
pub code_escape : (text : List ℕ) (n number c : ℕ) → 4 ≤ n → n ≤ 4 → n ≤ length text → AllDigits 16 (take n text) → number ≡ digits_value 16 (take n text)
    → IsScalar number → c ≡ number → 0 < number → IsEscape (117 ∷ text) (encode_utf8 c) (drop 4 text)
code_escape text n number c low high within digits is scalar same some =
    let four : n ≡ 4 = omega arith in
    record {
      piece = Code (take 4 text) c;
      is_piece = λ quote. record {
        four = length-take-le 4 text (omega arith);
        hexadecimal = subst (λ (k : ℕ). AllDigits 16 (take k text)) four digits;
        names = sym (same ∙ is ∙ ap (λ (k : ℕ). digits_value 16 (take k text)) four);
        some = omega arith;
        scalar = subst (λ (k : ℕ). IsScalar k) (sym same) scalar;
      };
      spelled = ap (λ (t : List ℕ). 92 ∷ 117 ∷ t) (sym (take-append-drop 4 text));
      bytes_are = refl;
    }

pub bad_digit : (text : List ℕ) (n : ℕ) → n < 4 → n < length text → AllDigits 16 (take n text) → 16 ≤ digit_value (get_or text n 0) → IsBadEscape (117 ∷ text)
bad_digit text n few within digits other =
    NoDigit (take n text) (drop (suc n) text) (get_or text n 0)
    (ap (λ (t : List ℕ). 117 ∷ t) (sym (take-append-drop n text) ∙ ap (λ (t : List ℕ). take n text ++ t) (drop-cons text n 0 within)))
    (omega (arith, length-take-le n text (omega arith))) digits other

pub bad_code : (text : List ℕ) (n number : ℕ) → 4 ≤ n → n ≤ 4 → n ≤ length text → AllDigits 16 (take n text) → number ≡ digits_value 16 (take n text)
    → (0 < number → IsScalar number → ⊥) → IsBadEscape (117 ∷ text)
bad_code text n number low high within digits is none =
    let four : n ≡ 4 = omega arith in
    NoCharacter (take 4 text) (drop 4 text) (ap (λ (t : List ℕ). 117 ∷ t) (sym (take-append-drop 4 text))) (length-take-le 4 text (omega arith))
    (subst (λ (k : ℕ). AllDigits 16 (take k text)) four digits)
    (λ c code.
    let same : c ≡ number = sym code.names ∙ sym (is ∙ ap (λ (k : ℕ). digits_value 16 (take k text)) four) in
    none (let some = code.some in omega arith) (subst (λ (k : ℕ). IsScalar k) same code.scalar))
