-- Hexadecimal digits at the beginning of a text.
use Rattle.std.proofs.Common.{◌≡◌, ℕ, zero, suc, ◌<◌, ◌≤◌, ◌+◌, ◌^◌, List, [], ◌∷◌, ◌++◌, length, take, get_or, refl, sym, subst, ◌∙◌, ap, arith, lit<, length-append, inl, inr}
use Rattle.std.specs.Char.{digit_value}
use Rattle.std.specs.Str.Parse.{AllDigits, digits_value}
use Rattle.std.proofs.lemmas.Bool.{cases_lt}
use Rattle.std.proofs.lemmas.List.{length-take-le, get_or_append_left, get_or_at, get_or-take, take_at}
use Rattle.std.proofs.lemmas.Int.Digits.{digits_value-lt}
use Rattle.std.proofs.Math.Nat.{pow-le-pow_right}
use Rattle.opl_codec.specs.Texts.{IsEscape, BeginsEscape}
use Rattle.opl_codec.specs.internal.TextParts.{IsHexadecimalFront}

-- so many digits make a number below this power
pub below : (text : List ℕ) (n k : ℕ) → n ≤ length text → n ≤ k → AllDigits 16 (take n text) → digits_value 16 (take n text) < 16 ^ k
below text n k within few digits =
    let lt = digits_value-lt 16 (take n text) digits in
    let len : length (take n text) ≡ n = length-take-le n text within in
    let lt2 : digits_value 16 (take n text) < 16 ^ n = subst (λ m. digits_value 16 (take n text) < 16 ^ m) len lt in
    let up : 16 ^ n ≤ 16 ^ k = pow-le-pow_right {n = 16} (lit< tt) few in
    omega (arith, lt2, up)

digit_at : (digits : List ℕ) (i : ℕ) → i < length digits → AllDigits 16 digits → digit_value (get_or digits i 0) < 16
digit_at [] i lt all = absurd (omega arith)
digit_at (x ∷ digits) zero lt all = all.0
digit_at (x ∷ digits) (suc i) lt all = digit_at digits i (omega arith) all.1

percent_is_none : digit_value 37 ≡ 36
percent_is_none = refl

-- digits before a `%` are no more than the digits at the beginning
no_longer : (text digits rest : List ℕ) (len : ℕ) → AllDigits 16 digits → text ≡ digits ++ 37 ∷ rest → IsHexadecimalFront text len → length digits ≤ len
no_longer text digits rest len all is front = elim (cases_lt len (length digits)) [ inl lt ↦ absurd (within lt) | inr le ↦ le ]
  where
    within : len < length digits → ⊥
    within lt =
        let same : get_or text len 0 ≡ get_or digits len 0 = ap (λ s. get_or s len 0) is ∙ get_or_append_left digits (37 ∷ rest) 0 len lt in
        let low : digit_value (get_or digits len 0) < 16 = digit_at digits len lt all in
        let long : length text ≡ length digits + length (37 ∷ rest) = ap length is ∙ length-append digits (37 ∷ rest) in
        let inside : len < length text = omega (arith, long, lt) in
        let high : 16 ≤ digit_value (get_or text len 0) = front.ends inside in
        let values : digit_value (get_or text len 0) ≡ digit_value (get_or digits len 0) = ap digit_value same in
        omega (arith, low, high, values)

-- digits that go past a `%` aren't all digits
no_shorter : (text digits rest : List ℕ) (len : ℕ) → len ≤ length text → AllDigits 16 (take len text) → text ≡ digits ++ 37 ∷ rest → len ≤ length digits
no_shorter text digits rest len within all is = elim (cases_lt (length digits) len) [ inl lt ↦ absurd (beyond lt) | inr le ↦ le ]
  where
    beyond : length digits < len → ⊥
    beyond lt =
        let mark : get_or text (length digits) 0 ≡ 37 = ap (λ s. get_or s (length digits) 0) is ∙ get_or_at digits 37 rest 0 (length digits) refl in
        let long : length (take len text) ≡ len = length-take-le len text within in
        let low : digit_value (get_or (take len text) (length digits) 0) < 16 = digit_at (take len text) (length digits) (omega (arith, long)) all in
        let same : get_or (take len text) (length digits) 0 ≡ 37 = get_or-take len text (length digits) 0 lt ∙ mark in
        let values : digit_value (get_or (take len text) (length digits) 0) ≡ 36 = ap digit_value same in
        omega (arith, low, values)

-- an escape that begins here has just the digits at the beginning, and a `%` after them
pub record EscapeFront (text : List ℕ) (len : ℕ) : Type 0 where
  pub within : len < length text
  pub mark : get_or text len 0 ≡ 37
  pub escape : IsEscape (take len text)

pub escape_front : (text : List ℕ) (len : ℕ) → IsHexadecimalFront text len → BeginsEscape text → EscapeFront text len
escape_front text len front begins =
    let digits = begins.0 in
    let rest = begins.1 in
    let is = begins.2 in
    let escape = begins.3 in
    let long : length text ≡ length digits + length (37 ∷ rest) = ap length is ∙ length-append digits (37 ∷ rest) in
    let up : length digits ≤ len = no_longer text digits rest len escape.hexadecimal is front in
    let down : len ≤ length digits = no_shorter text digits rest len front.within front.digits is in
    let same : length digits ≡ len = omega arith in
    let taken : take len text ≡ digits = ap (take len) is ∙ take_at digits (37 ∷ rest) len same in
    record {
      within = omega (arith, long, same);
      mark = ap (λ s. get_or s len 0) is ∙ get_or_at digits 37 rest 0 len same;
      escape = subst IsEscape (sym taken) escape;
    }

-- nine digits begin no escape
pub nine_begin_none : (text : List ℕ) → 9 ≤ length text → AllDigits 16 (take 9 text) → BeginsEscape text → ⊥
nine_begin_none text within all begins =
    let long : 9 ≤ length begins.0 = no_shorter text begins.0 begins.1 9 within all begins.2 in
    omega (arith, long, begins.3.few)
