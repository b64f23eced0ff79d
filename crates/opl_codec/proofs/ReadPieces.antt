-- The pieces between separators.
use Rattle.std.proofs.Common.{◌≡◌, ℕ, ◌+◌, List, [], ◌∷◌, length, true, false, cond, ◌==◌, arith}
use Rattle.std.proofs.Common.{Option, Some, None, Bor}
use Rattle.std.proofs.lemmas.Bool.Decides.{nat_tests}
use Rattle.byte_io.specs.Pieces.{pieces, onto_first}

-- there is always a piece
pub some_piece : (separator : ℕ) (text : List ℕ) → pieces separator text ≡ [] → ⊥
some_piece separator [] e = cc
some_piece separator (x ∷ text) e = elim (x == separator) as (λ b. cond b ([] ∷ pieces separator text) (onto_first x (pieces separator text)) ≡ [] → ⊥) [
  | true ↦ λ h. cc
  | false ↦ λ h. onto_some x (pieces separator text) h
] e
  where
    onto_some : (x : ℕ) (ps : List (List ℕ)) → onto_first x ps ≡ [] → ⊥
    onto_some x [] h = cc
    onto_some x (p ∷ ps) h = cc

pub equal_from : (x c : ℕ) → (x == c) ≡ true → x ≡ c
equal_from x c e = grind (arith, nat_tests, e)

-- the pieces of what is left
abbrev pub pieces_left : ℕ → Option (Bor (List ℕ)) → List (List ℕ)
pieces_left separator None = []
pieces_left separator (Some rest) = pieces separator rest.now

abbrev pub left_len : Option (Bor (List ℕ)) → ℕ
left_len None = 0
left_len (Some rest) = length rest.now + 1
