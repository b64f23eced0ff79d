-- The pieces of a text, and the text that they make.
use Rattle.std.proofs.Common.{◌≡◌, ◌≢◌, ℕ, List, [], ◌∷◌, ◌++◌, true, false, ◌==◌, if◌then◌else◌, refl, sym, ap, ◌∙◌, append_assoc, arith, eq-eqb, inl, inr}
use Rattle.std.proofs.lemmas.Bool.{cases_eq}
use Rattle.std.proofs.lemmas.Bool.Decides.{nat_tests}
use Rattle.std.specs.List.{AllByRecursion, flat_map}
use Rattle.byte_io.specs.Pieces.{Lacks, onto_first, pieces}
use Rattle.pack_head.specs.Heads.{ended, line_feed}

-- ---- a text's first piece

-- there is always a piece
pub some_piece : (separator : ℕ) (text : List ℕ) → pieces separator text ≢ []
some_piece separator [] e = cc
some_piece separator (x ∷ text) e = elim (x == separator) as (λ b. (if b then [] ∷ pieces separator text else onto_first x (pieces separator text)) ≡ [] → ⊥) [
  | true ↦ λ h. cc
  | false ↦ λ h. onto_some (pieces separator text) h
] e
  where
    onto_some : (ps : List (List ℕ)) → onto_first x ps ≡ [] → ⊥
    onto_some [] h = cc
    onto_some (p ∷ ps) h = cc

-- the first piece ends at the first separator
pub first_piece : (separator : ℕ) (line rest : List ℕ) → Lacks separator line → pieces separator (line ++ separator ∷ rest) ≡ line ∷ pieces separator rest
first_piece separator [] rest lacks = rw (eq-eqb separator separator refl) refl
first_piece separator (x ∷ line) rest lacks = rw (lacks.0, first_piece separator line rest lacks.1) refl

-- ---- lines with their ends

-- the pieces of lines that end
pub pieces_of_ended : (lines : List (List ℕ)) → AllByRecursion (Lacks line_feed) lines → pieces line_feed (flat_map ended lines) ≡ lines ++ [] ∷ []
pieces_of_ended [] lack = refl
pieces_of_ended (line ∷ lines) lack =
    ap (pieces line_feed) (append_assoc line (line_feed ∷ []) (flat_map ended lines))
    ∙ first_piece line_feed line (flat_map ended lines) lack.0
    ∙ ap (λ (ls : List (List ℕ)). line ∷ ls) (pieces_of_ended lines lack.1)

-- pieces, with separators between them
abbrev more : List (List ℕ) → List ℕ
more pieces = flat_map (λ (piece : List ℕ). line_feed ∷ piece) pieces

abbrev glued : List (List ℕ) → List ℕ
glued [] = []
glued (piece ∷ pieces) = piece ++ more pieces

after_separator : (ps : List (List ℕ)) → ps ≢ [] → more ps ≡ line_feed ∷ glued ps
after_separator [] some = absurd (some refl)
after_separator (p ∷ ps) some = refl

glued-onto : (x : ℕ) (ps : List (List ℕ)) → glued (onto_first x ps) ≡ x ∷ glued ps
glued-onto x [] = refl
glued-onto x (p ∷ ps) = refl

glued-pieces : (text : List ℕ) → glued (pieces line_feed text) ≡ text
glued-pieces [] = refl
glued-pieces (x ∷ text) = elim (cases_eq x line_feed) [
  | inl same ↦ rw (eq-eqb x line_feed same) (after_separator (pieces line_feed text) (some_piece line_feed text) ∙ ap (λ (t : List ℕ). line_feed ∷ t) (glued-pieces text) ∙ ap (λ (y : ℕ). y ∷ text) (sym same))
  | inr other ↦ rw (false_eq x other) (glued-onto x (pieces line_feed text) ∙ ap (λ (t : List ℕ). x ∷ t) (glued-pieces text))
]
  where
    false_eq : (y : ℕ) → y ≢ line_feed → (y == line_feed) ≡ false
    false_eq y other = grind (arith, nat_tests)

one_more : (lines : List (List ℕ)) → (lines ++ [] ∷ []) ≢ []
one_more [] e = cc
one_more (line ∷ lines) e = cc

glued-ended : (lines : List (List ℕ)) → glued (lines ++ [] ∷ []) ≡ flat_map ended lines
glued-ended [] = refl
glued-ended (line ∷ lines) =
    ap (λ (t : List ℕ). line ++ t) (after_separator (lines ++ [] ∷ []) (one_more lines) ∙ ap (λ (t : List ℕ). line_feed ∷ t) (glued-ended lines))
    ∙ sym (append_assoc line (line_feed ∷ []) (flat_map ended lines))

-- a text whose pieces are lines and nothing after them
pub ended_text : (text : List ℕ) (lines : List (List ℕ)) → pieces line_feed text ≡ lines ++ [] ∷ [] → text ≡ flat_map ended lines
ended_text text lines are = sym (glued-pieces text) ∙ ap glued are ∙ glued-ended lines

-- ---- two texts that are cut at the first separator

pub cut_same : (separator : ℕ) (a b x y : List ℕ) → Lacks separator a → Lacks separator b → a ++ separator ∷ x ≡ b ++ separator ∷ y → (a ≡ b) × (x ≡ y)
cut_same separator [] [] x y la lb e = (refl, cc)
cut_same separator [] (c ∷ b) x y la lb e = absurd (let same : separator ≡ c = cc in let yes : (c == separator) ≡ true = eq-eqb c separator (sym same) in let no : true ≡ false = sym yes ∙ lb.0 in cc)
cut_same separator (c ∷ a) [] x y la lb e = absurd (let same : c ≡ separator = cc in let yes : (c == separator) ≡ true = eq-eqb c separator same in let no : true ≡ false = sym yes ∙ la.0 in cc)
cut_same separator (c ∷ a) (d ∷ b) x y la lb e =
    let head : c ≡ d = cc in
    let tail : a ++ separator ∷ x ≡ b ++ separator ∷ y = cc in
    let (front, rest) = cut_same separator a b x y la.1 lb.1 tail in (rw (head, front) refl, rest)
