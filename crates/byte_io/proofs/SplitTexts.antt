-- Texts and a byte that comes in them or doesn't, by places.
use Rattle.std.proofs.Common.{◌≡◌, ℕ, zero, suc, ◌+◌, ◌<◌, List, [], ◌∷◌, ◌++◌, length, get_or, take, drop, Bool, true, false, ◌==◌, refl, ap, arith, add-one}
use Rattle.std.proofs.lemmas.Bool.{eqb-true}
use Rattle.byte_io.specs.Pieces.{Lacks}

false_from : (b : Bool) → (b ≡ true → ⊥) → b ≡ false
false_from true h = absurd (h refl)
false_from false h = refl

module _ (byte : ℕ) where
  -- no place has the byte
  pub lacks_all : (text : List ℕ) → ((k : ℕ) → k < length text → (get_or text k 0 == byte) ≡ true → ⊥) → Lacks byte text
  lacks_all [] h = tt
  lacks_all (c ∷ text) h = (false_from (c == byte) (h 0 (omega arith)), lacks_all text (λ k lt. h (suc k) (omega arith)))

  -- none of the places before this one has it
  pub lacks_before : (text : List ℕ) (at : ℕ) → at < length text → ((k : ℕ) → k < at → (get_or text k 0 == byte) ≡ true → ⊥) → Lacks byte (take at text)
  lacks_before [] at lt h = absurd (omega arith)
  lacks_before (c ∷ text) zero lt h = tt
  lacks_before (c ∷ text) (suc at) lt h = (false_from (c == byte) (h 0 (omega arith)), lacks_before text at (omega arith) (λ k below. h (suc k) (omega arith)))

  split_by : (text : List ℕ) (at : ℕ) → at < length text → get_or text at 0 ≡ byte → text ≡ take at text ++ byte ∷ drop (suc at) text
  split_by [] at lt e = absurd (omega arith)
  split_by (c ∷ text) zero lt e = ap (λ x. x ∷ text) e
  split_by (c ∷ text) (suc at) lt e = ap (λ t. c ∷ t) (split_by text at (omega arith) e)

  -- the text is split at the byte at this place
  pub split_at : (text : List ℕ) (at : ℕ) → at < length text → (get_or text at 0 == byte) ≡ true → text ≡ take at text ++ byte ∷ drop (at + 1) text
  split_at text at lt e = rw add-one (split_by text at lt (eqb-true (get_or text at 0) byte e))
