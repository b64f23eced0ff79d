-- The pieces of a text that is longer by another.
use Rattle.std.proofs.Common.{◌≡◌, ◌≢◌, ℕ, List, [], ◌∷◌, ◌++◌, true, false, ◌==◌, if◌then◌else◌, refl, sym, ◌∙◌, ap}
use Rattle.byte_io.specs.Pieces.{pieces, onto_first}
use Rattle.opl_codec.proofs.ReadPieces.{some_piece}

-- the last piece of the first text goes on with the first piece of the second
abbrev pub glue : List (List ℕ) → List (List ℕ) → List (List ℕ)
glue [] bs = bs
glue (a ∷ []) [] = a ∷ []
glue (a ∷ []) (b ∷ bs) = (a ++ b) ∷ bs
glue (a ∷ next ∷ as') bs = a ∷ glue (next ∷ as') bs

glue_onto : (byte : ℕ) (as' bs : List (List ℕ)) → as' ≢ [] → glue (onto_first byte as') bs ≡ onto_first byte (glue as' bs)
glue_onto byte [] bs some = absurd (some refl)
glue_onto byte (a ∷ []) [] some = refl
glue_onto byte (a ∷ []) (b ∷ bs) some = refl
glue_onto byte (a ∷ next ∷ as') bs some = refl

glue_cons : (a : List ℕ) (as' bs : List (List ℕ)) → as' ≢ [] → glue (a ∷ as') bs ≡ a ∷ glue as' bs
glue_cons a [] bs some = absurd (some refl)
glue_cons a (next ∷ as') bs some = refl

glue_empty : (bs : List (List ℕ)) → bs ≢ [] → glue ([] ∷ []) bs ≡ bs
glue_empty [] some = absurd (some refl)
glue_empty (b ∷ bs) some = refl

pub pieces-append : (c : ℕ) (a b : List ℕ) → pieces c (a ++ b) ≡ glue (pieces c a) (pieces c b)
pieces-append c [] b = sym (glue_empty (pieces c b) (some_piece c b))
pieces-append c (byte ∷ a) b = elim (byte == c) as (λ t. (if t then [] ∷ pieces c (a ++ b) else onto_first byte (pieces c (a ++ b))) ≡ glue (if t then [] ∷ pieces c a else onto_first byte (pieces c a)) (pieces c b)) [
  | true ↦ ap (λ ps. [] ∷ ps) (pieces-append c a b) ∙ sym (glue_cons [] (pieces c a) (pieces c b) (some_piece c a))
  | false ↦ ap (onto_first byte) (pieces-append c a b) ∙ sym (glue_onto byte (pieces c a) (pieces c b) (some_piece c a))
]

front_some : (ls : List (List ℕ)) (p : List ℕ) → ls ++ p ∷ [] ≢ []
front_some [] p e = cc
front_some (l ∷ ls) p e = cc

glue_last : (ls : List (List ℕ)) (p q : List ℕ) (qs : List (List ℕ)) → glue (ls ++ p ∷ []) (q ∷ qs) ≡ ls ++ (p ++ q) ∷ qs
glue_last [] p q qs = refl
glue_last (l ∷ ls) p q qs = glue_cons l (ls ++ p ∷ []) (q ∷ qs) (front_some ls p) ∙ ap (λ ps. l ∷ ps) (glue_last ls p q qs)

-- the pieces of both, where the first text's last piece and the second text's first are known
pub pieces_join : (c : ℕ) (a b : List ℕ) (ls : List (List ℕ)) (p q : List ℕ) (qs : List (List ℕ)) → pieces c a ≡ ls ++ p ∷ [] → pieces c b ≡ q ∷ qs → pieces c (a ++ b) ≡ ls ++ (p ++ q) ∷ qs
pieces_join c a b ls p q qs e f = pieces-append c a b ∙ ap (λ x. glue x (pieces c b)) e ∙ ap (glue (ls ++ p ∷ [])) f ∙ glue_last ls p q qs
