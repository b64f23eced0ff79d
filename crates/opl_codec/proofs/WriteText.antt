-- Texts and their escapes.
use Rattle.std.proofs.Common.{◌≡◌, ℕ, ◌-◌, ◌/◌, ◌%◌, ◌<◌, List, [], ◌∷◌, ◌++◌, drop, flat_map, Bool, true, false, ◌&&◌, cond, ltb, refl, ◌∙◌, ap, arith}
use Rattle.std.specs.Char.{digit_char}
use Rattle.std.specs.List.{list_all}
use Rattle.std.specs.Str.{IsAscii}
use Rattle.std.proofs.lemmas.Str.{chars-IsAscii}
use Rattle.std.proofs.lemmas.Str.Ascii.{IsAscii-nil, IsAscii-cons}
use Rattle.std.proofs.lemmas.Bool.Decides.{nat_tests}
use Rattle.osm_model.specs.CanonicalLine.{is_literal, escaped, escaped_char, hex, hex_places, hex_digits}

-- the last of six digits
abbrev LastPlaces : ℕ → List ℕ → ℕ → Type 0
LastPlaces c digits k = drop (6 - k) digits ≡ hex_digits k c ++ 37 ∷ []

-- the last places of six digits are the digits of the escape
pub last_places : (c : ℕ) (d f g h i j : ℕ) → d ≡ digit_char (c / 0x10_0000 % 16) → f ≡ digit_char (c / 0x1_0000 % 16) → g ≡ digit_char (c / 0x1000 % 16) → h ≡ digit_char (c / 0x100 % 16) → i ≡ digit_char (c / 0x10 % 16) → j ≡ digit_char (c % 16) → drop (6 - hex_places c) (d ∷ f ∷ g ∷ h ∷ i ∷ j ∷ 37 ∷ []) ≡ hex c ++ 37 ∷ []
unfolding hex
last_places c d f g h i j e5 e4 e3 e2 e1 e0 =
    let whole : c / 1 ≡ c = omega arith in
    let last : j ≡ digit_char (c / 1 % 16) = rw whole e0 in
    let P : ℕ → Type 0 = LastPlaces c (d ∷ f ∷ g ∷ h ∷ i ∷ j ∷ 37 ∷ []) in
    let two : P 2 = cc in
    let three : P 3 = cc in
    let four : P 4 = cc in
    let five : P 5 = cc in
    let six : P 6 = cc in
    elim (ltb c 0x100) as (λ b. P (cond b 2 (cond (ltb c 0x1000) 3 (cond (ltb c 0x1_0000) 4 (cond (ltb c 0x10_0000) 5 6))))) [
      | true ↦ two
      | false ↦ elim (ltb c 0x1000) as (λ b. P (cond b 3 (cond (ltb c 0x1_0000) 4 (cond (ltb c 0x10_0000) 5 6)))) [
        | true ↦ three
        | false ↦ elim (ltb c 0x1_0000) as (λ b. P (cond b 4 (cond (ltb c 0x10_0000) 5 6))) [
          | true ↦ four
          | false ↦ elim (ltb c 0x10_0000) as (λ b. P (cond b 5 6)) [ true ↦ five | false ↦ six ]
        ]
      ]
    ]

-- a literal byte is ASCII
literal_ascii : (b : ℕ) → is_literal b ≡ true → b < 128
literal_ascii b e = grind (arith, nat_tests)

both_first : (a b : Bool) → (a && b) ≡ true → a ≡ true
both_first true b e = refl
both_first false b e = cc

both_second : (a b : Bool) → (a && b) ≡ true → b ≡ true
both_second true b e = e
both_second false b e = cc

ascii_of : (bytes : List ℕ) → list_all is_literal bytes ≡ true → IsAscii bytes
ascii_of [] e = IsAscii-nil
ascii_of (b ∷ bytes) e = IsAscii-cons b bytes (literal_ascii b (both_first (is_literal b) (list_all is_literal bytes) e)) (ascii_of bytes (both_second (is_literal b) (list_all is_literal bytes) e))

one_by_one : (bytes : List ℕ) → list_all is_literal bytes ≡ true → flat_map escaped_char bytes ≡ bytes
one_by_one [] e = refl
one_by_one (b ∷ bytes) e =
    let first = both_first (is_literal b) (list_all is_literal bytes) e in
    let rest = one_by_one bytes (both_second (is_literal b) (list_all is_literal bytes) e) in
    rw (first, rest) refl

-- a text of literal bytes stands as it is
pub escaped-literal : (bytes : List ℕ) → list_all is_literal bytes ≡ true → escaped bytes ≡ bytes
unfolding escaped
escaped-literal bytes e = ap (flat_map escaped_char) (chars-IsAscii bytes (ascii_of bytes e)) ∙ one_by_one bytes e
