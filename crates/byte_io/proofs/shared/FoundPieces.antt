-- The pieces of a text, by what a search for their separator finds.
use Rattle.std.proofs.Common.{◌≡◌, ◌≢◌, ℕ, zero, suc, ◌+◌, ◌-◌, ◌<◌, ◌≤◌, List, [], ◌∷◌, length, get_or, take, drop, true, false, ◌==◌, refl, sym, ◌∙◌, ap, arith, length-drop, add-one}
use Rattle.std.proofs.lemmas.List.{length-take-le, take_all}
use Rattle.std.proofs.lemmas.Bool.Decides.{nat_tests}
use Rattle.memchr.specs.Find.{Passes, is_byte, NoneBefore}
use Rattle.byte_io.specs.Pieces.{pieces}

-- no separator: one piece
pub one_piece : (separator : ℕ) (text : List ℕ) → ((k : ℕ) → k < length text → get_or text k 0 ≢ separator) → pieces separator text ≡ text ∷ []
one_piece separator [] none = refl
one_piece separator (x ∷ text) none =
    let other : (x == separator) ≡ false = grind (arith, nat_tests, none 0 (omega arith)) in
    rw (other, one_piece separator text (λ k lt. none (suc k) (omega arith))) refl

-- the first piece ends at the first separator
pub first_piece : (separator : ℕ) (text : List ℕ) (n : ℕ) → ((k : ℕ) → k < n → get_or text k 0 ≢ separator) → n < length text → get_or text n 0 ≡ separator → pieces separator text ≡ take n text ∷ pieces separator (drop (suc n) text)
first_piece separator [] n none lt at = absurd (omega arith)
first_piece separator (x ∷ text) zero none lt at =
    let same : (x == separator) ≡ true = grind (arith, nat_tests, at) in rw same refl
first_piece separator (x ∷ text) (suc n) none lt at =
    let other : (x == separator) ≡ false = grind (arith, nat_tests, none 0 (omega arith)) in
    rw (other, first_piece separator text n (λ k h. none (suc k) (omega arith)) (omega arith) at) refl

passed : (separator x : ℕ) → x ≡ separator → is_byte separator x ≡ true
passed separator x e = grind (arith, nat_tests, e)

pub stood : (separator x : ℕ) → is_byte separator x ≡ true → x ≡ separator
stood separator x e = grind (arith, nat_tests, e)

-- what a search for the separator says
pub cut_none : (separator : ℕ) (text : List ℕ) → ((k : ℕ) → 0 ≤ k → k < length text → Passes (is_byte separator) text k → ⊥) → pieces separator text ≡ text ∷ []
cut_none separator text none = one_piece separator text (λ k lt e. none k (omega arith) lt (passed separator (get_or text k 0) e))

pub cut_some : (separator : ℕ) (text rest : List ℕ) (n : ℕ) → rest ≡ drop (n + 1) text → NoneBefore (Passes (is_byte separator) text) 0 (length text) n → Passes (is_byte separator) text n
    → (pieces separator text ≡ take n text ∷ pieces separator rest) × (length (take n text) + 1 + length rest ≡ length text)
cut_some separator text rest n is found at =
    let high = found.high in
    let first = first_piece separator text n (λ k lt e. found.before k (omega arith) lt (passed separator (get_or text k 0) e)) high (stood separator (get_or text n 0) at) in
    let le : n ≤ length text = omega arith in (
      first ∙ ap (λ r. take n text ∷ pieces separator r) (rw add-one at (sym is)),
      omega (arith, length-take-le n text le, ap length is, length-drop (n + 1) text),
    )

-- the rest of a text, as a range gives it
pub rest_is : (text : List ℕ) (n : ℕ) → take (length text - (n + 1)) (drop (n + 1) text) ≡ drop (n + 1) text
rest_is text n = take_all (length text - (n + 1)) (drop (n + 1) text) (omega (arith, length-drop (n + 1) text))
