-- Bytes that don't come in the parts of a line.
use Rattle.std.proofs.Common.{◌≡◌, ◌≢◌, ◌<◌, ◌≤◌, ◌^◌, ◌/◌, ◌%◌, ℕ, suc, zero, List, [], ◌∷◌, ◌++◌, true, false, Bool, ◌==◌, ◌&&◌, refl, sym, ◌∙◌, arith, inl, inr, slice_index, eq-eqb, subst, nat_le}
use borrow.Author.Tests.{leb-true}
use Rattle.std.specs.Fmt.{decimal}
use Rattle.std.specs.List.{list_all}
use Rattle.std.specs.Str.Parse.{AllDigits}
use Rattle.std.proofs.lemmas.Bool.{and_parts, cases_lt}
use Rattle.std.proofs.lemmas.Bool.Decides.{nat_tests}
use Rattle.std.proofs.lemmas.Fmt.{digits_decimal}
use Rattle.std.proofs.lemmas.Str.Parse.{digit_from_value, numerals_by_value, tells_digits}
use Rattle.hex.specs.Hex.{encode_lower, encode_with, lower_digits}
use Rattle.byte_io.specs.Pieces.{Lacks}
use Rattle.pack_head.specs.Names.{is_name_byte}

pub other_eq : (x y : ℕ) → x ≢ y → (x == y) ≡ false
other_eq x y other = grind (arith, nat_tests)

pub Lacks-append : (byte : ℕ) (a b : List ℕ) → Lacks byte a → Lacks byte b → Lacks byte (a ++ b)
Lacks-append byte [] b la lb = lb
Lacks-append byte (x ∷ a) b la lb = (la.0, Lacks-append byte a b la.1 lb)

-- what has the byte doesn't lack it
pub lacks_not : (byte : ℕ) (a b : List ℕ) → Lacks byte (a ++ byte ∷ b) → ⊥
lacks_not byte [] b lacks = let yes = eq-eqb byte byte refl in let no : true ≡ false = sym yes ∙ lacks.0 in cc
lacks_not byte (x ∷ a) b lacks = lacks_not byte a b lacks.1

-- ---- numbers

digits_lack : (byte : ℕ) → byte < 48 → (ds : List ℕ) → AllDigits 10 ds → Lacks byte ds
digits_lack byte low [] digits = tt
digits_lack byte low (c ∷ ds) digits =
    let range = digit_from_value c digits.0 in
    let other : c ≢ byte = omega arith in
    (other_eq c byte other, digits_lack byte low ds digits.1)

-- no byte below the digits comes in a number
pub Lacks-decimal : (byte n : ℕ) → byte < 48 → n < 2 ^ 64 → Lacks byte (decimal n)
Lacks-decimal byte n low small = digits_lack byte low (decimal n) (digits_decimal (numerals_by_value (AllDigits 10) tells_digits) n small)

-- ---- hexadecimal digits

-- each of the first so many digits of the table is no byte below the digits
abbrev are_digits : ℕ → Bool
are_digits zero = true
are_digits (suc k) = nat_le 48 (slice_index lower_digits k) && are_digits k

digit_at : (n k : ℕ) → are_digits n ≡ true → k < n → 48 ≤ slice_index lower_digits k
digit_at zero k are lt = absurd (omega arith)
digit_at (suc n) k are lt =
    let parts = and_parts (nat_le 48 (slice_index lower_digits n)) (are_digits n) are in
    elim (cases_lt k n) [
      | inl below ↦ digit_at n k parts.1 below
      | inr top ↦
          let e : k ≡ n = omega arith in
          let at : 48 ≤ slice_index lower_digits n = leb-true 48 (slice_index lower_digits n) parts.0 in
          subst (λ (i : ℕ). 48 ≤ slice_index lower_digits i) (sym e) at
    ]

glyph : (k : ℕ) → k < 16 → 48 ≤ slice_index lower_digits k
glyph k small = digit_at 16 k refl small

pub Lacks-hex : (byte : ℕ) → byte < 48 → (bytes : List ℕ) → ((i : ℕ) → slice_index bytes i < 256) → Lacks byte (encode_lower bytes)
unfolding encode_with
Lacks-hex byte low [] small = tt
Lacks-hex byte low (b ∷ bytes) small =
    let fits : b < 256 = small 0 in
    let high = glyph (b / 16) (omega arith) in
    let last = glyph (b % 16) (omega arith) in
    let high_other : slice_index lower_digits (b / 16) ≢ byte = omega arith in
    let last_other : slice_index lower_digits (b % 16) ≢ byte = omega arith in
    (other_eq _ byte high_other, (other_eq _ byte last_other, Lacks-hex byte low bytes (λ i. small (suc i))))

-- ---- names

no_feed : (byte : ℕ) → is_name_byte byte ≡ true → byte ≢ 10
no_feed byte is e = let no : is_name_byte 10 ≡ true = subst (λ (b : ℕ). is_name_byte b ≡ true) e is in cc no

pub Lacks-name : (name : List ℕ) → list_all is_name_byte name ≡ true → Lacks 10 name
Lacks-name [] all = tt
Lacks-name (byte ∷ name) all =
    let parts = and_parts (is_name_byte byte) (list_all is_name_byte name) all in
    (other_eq byte 10 (no_feed byte parts.0), Lacks-name name parts.1)
