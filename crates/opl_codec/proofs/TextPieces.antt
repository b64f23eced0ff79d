-- Pieces that are joined and cut again.
use Rattle.std.proofs.Common.{◌≡◌, ℕ, ◌<◌, List, [], ◌∷◌, ◌++◌, true, false, ◌==◌, refl, ◌∙◌, ap, arith}
use Rattle.std.specs.List.{AllByRecursion, join_with_byte}
use Rattle.std.specs.Char.{digit_value}
use Rattle.std.specs.Str.Parse.{AllDigits}
use Rattle.std.proofs.lemmas.Str.Parse.{digit_from_value}
use Rattle.std.proofs.lemmas.Bool.Decides.{nat_tests}
use Rattle.byte_io.specs.Pieces.{pieces, Lacks}

pub lacks_append : (separator : ℕ) (xs ys : List ℕ) → Lacks separator xs → Lacks separator ys → Lacks separator (xs ++ ys)
lacks_append separator [] ys h k = k
lacks_append separator (x ∷ xs) ys h k = (h.0, lacks_append separator xs ys h.1 k)

same_byte : (c : ℕ) → (c == c) ≡ true
same_byte c = grind (arith, nat_tests)

-- no separator: one piece
pub one_piece : (separator : ℕ) (text : List ℕ) → Lacks separator text → pieces separator text ≡ text ∷ []
one_piece separator [] h = refl
one_piece separator (x ∷ text) h = rw (h.0, one_piece separator text h.1) refl

-- the first piece ends at the first separator
pub first_piece : (separator : ℕ) (text rest : List ℕ) → Lacks separator text → pieces separator (text ++ separator ∷ rest) ≡ text ∷ pieces separator rest
first_piece separator [] rest h = rw (same_byte separator) refl
first_piece separator (x ∷ text) rest h = rw (h.0, first_piece separator text rest h.1) refl

-- pieces that are joined are cut where they were joined
pub pieces-join : (separator : ℕ) (piece : List ℕ) (others : List (List ℕ)) → Lacks separator piece → AllByRecursion (λ other. Lacks separator other) others → pieces separator (join_with_byte separator (piece ∷ others)) ≡ piece ∷ others
pieces-join separator piece [] h k = one_piece separator piece h
pieces-join separator piece (other ∷ others) h k = first_piece separator piece (join_with_byte separator (other ∷ others)) h ∙ ap (λ ps. piece ∷ ps) (pieces-join separator other others k.0 k.1)

-- joined pieces lack a byte that they and the separator lack
pub lacks_joined : (absent separator : ℕ) → (separator == absent) ≡ false → (parts : List (List ℕ)) → AllByRecursion (λ part. Lacks absent part) parts → Lacks absent (join_with_byte separator parts)
lacks_joined absent separator other [] h = tt
lacks_joined absent separator other (part ∷ []) h = h.0
lacks_joined absent separator other (part ∷ more ∷ parts) h = lacks_append absent part (separator ∷ join_with_byte separator (more ∷ parts)) h.0 (other, lacks_joined absent separator other (more ∷ parts) h.1)

digit_differs : (separator byte : ℕ) → separator < 33 → digit_value byte < 10 → (byte == separator) ≡ false
digit_differs separator byte low h = let range = digit_from_value byte h in grind (arith, nat_tests)

-- digits have no space and no line end
pub digits_lack : (separator : ℕ) → separator < 33 → (digits : List ℕ) → AllDigits 10 digits → Lacks separator digits
digits_lack separator low [] h = tt
digits_lack separator low (d ∷ digits) h = (digit_differs separator d low h.0, digits_lack separator low digits h.1)
