-- Fields by their letters.
use Rattle.std.proofs.Common.{◌≡◌, ℕ, List, [], ◌∷◌, ◌++◌, true, false, cond, ◌==◌, Option, Some, None, refl, ◌∙◌, ap, arith}
use Rattle.std.proofs.lemmas.Bool.Decides.{nat_tests}
use Rattle.opl_codec.specs.Fields.{field, IsOnce}
use Rattle.opl_codec.proofs.ReadPieces.{equal_from}

-- a field that isn't among the first is found among the others
pub field_appended : (c : ℕ) (done more : List (List ℕ)) → field c done ≡ None → field c (done ++ more) ≡ field c more
field_appended c [] more none = refl
field_appended c ([] ∷ done) more none = field_appended c done more none
field_appended c ((x ∷ text) ∷ done) more none = elim (x == c) as (λ b. cond b (Some text) (field c done) ≡ None → cond b (Some text) (field c (done ++ more)) ≡ field c more) [
  | true ↦ λ e. cc
  | false ↦ λ e. field_appended c done more e
] none

same_letter : (c : ℕ) → (c == c) ≡ true
same_letter c = grind (arith, nat_tests)

-- a field is found where it stands
pub found_at : (c : ℕ) (u : List ℕ) (rest : List (List ℕ)) → field c ((c ∷ u) ∷ rest) ≡ Some u
found_at c u rest = rw (same_letter c) refl

-- an item there means that something is found
pub found_somewhere : (c : ℕ) (done : List (List ℕ)) (u : List ℕ) (rest : List (List ℕ)) → field c (done ++ (c ∷ u) ∷ rest) ≡ None → ⊥
found_somewhere c [] u rest e = let f = found_at c u rest in cc
found_somewhere c ([] ∷ done) u rest e = found_somewhere c done u rest e
found_somewhere c ((x ∷ text) ∷ done) u rest e = elim (x == c) as (λ b. cond b (Some text) (field c (done ++ (c ∷ u) ∷ rest)) ≡ None → ⊥) [
  | true ↦ λ h. cc
  | false ↦ λ h. found_somewhere c done u rest h
] e

-- a letter that came can't come again
pub twice : (c : ℕ) (done : List (List ℕ)) (u : List ℕ) (rest : List (List ℕ)) → (field c done ≡ None → ⊥) → IsOnce (done ++ (c ∷ u) ∷ rest) → ⊥
twice c [] u rest some once = some refl
twice c ([] ∷ done) u rest some once = twice c done u rest some once.1
twice c ((x ∷ text) ∷ done) u rest some once = elim (x == c) as (λ b. (x == c) ≡ b → (cond b (Some text) (field c done) ≡ None → ⊥) → ⊥) [
  | true ↦ λ e h. found_somewhere c done u rest (rw (equal_from x c e) at once.0)
  | false ↦ λ e h. twice c done u rest h once.1
] refl some

-- a field of another letter changes nothing
pub other_field : (c d : ℕ) (u : List ℕ) (done : List (List ℕ)) → (d == c) ≡ false → field c (done ++ (d ∷ u) ∷ []) ≡ field c done
other_field c d u [] differ = rw differ refl
other_field c d u ([] ∷ done) differ = other_field c d u done differ
other_field c d u ((x ∷ text) ∷ done) differ = ap (cond (x == c) (Some text)) (other_field c d u done differ)

-- the new field is found
pub new_field : (c : ℕ) (u : List ℕ) (done : List (List ℕ)) → field c done ≡ None → field c (done ++ (c ∷ u) ∷ []) ≡ Some u
new_field c u done none = field_appended c done ((c ∷ u) ∷ []) none ∙ found_at c u []

-- where each letter stands once, the field that stands there is the one that is found
pub only_field : (done rest : List (List ℕ)) (c : ℕ) (u : List ℕ) → IsOnce (done ++ (c ∷ u) ∷ rest) → field c (done ++ (c ∷ u) ∷ rest) ≡ Some u
only_field done rest c u once = from (field c done) refl
  where
    from : (found : Option (List ℕ)) → field c done ≡ found → field c (done ++ (c ∷ u) ∷ rest) ≡ Some u
    from None e = field_appended c done ((c ∷ u) ∷ rest) e ∙ found_at c u rest
    from (Some t) e = absurd (twice c done u rest (λ none. absurd (let s = e in cc)) once)
