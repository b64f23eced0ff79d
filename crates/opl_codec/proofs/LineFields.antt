-- The fields of a text that is made of a front and a rest.
use Rattle.std.proofs.Common.{◌≡◌, ◌≢◌, ℕ, ◌+◌, ◌-◌, ◌<◌, ◌≤◌, List, [], ◌∷◌, ◌++◌, length, true, false, if◌then◌else◌, refl, sym, ◌∙◌, ap, subst, arith, append-nil, append_assoc, length-append}
use Rattle.std.specs.List.{filter}
use Rattle.std.proofs.lemmas.List.Elements.{filter-append}
use Rattle.byte_io.specs.Pieces.{onto_first}
use Rattle.opl_codec.specs.LineFields.{is_blank, is_some_text, between_blanks, fields, FieldAt}
use Rattle.opl_codec.specs.internal.FieldCuts.{AreBlanks, HasNoBlank, StartsBlank, IsNextField, HasRead}

-- there is always a piece
some_piece : (text : List ℕ) → between_blanks text ≢ []
some_piece [] e = cc
some_piece (x ∷ text) e = elim (is_blank x) as (λ b. (if b then [] ∷ between_blanks text else onto_first x (between_blanks text)) ≡ [] → ⊥) [
  | true ↦ λ h. cc
  | false ↦ λ h. onto_some x (between_blanks text) h
] e
  where
    onto_some : (x : ℕ) (ps : List (List ℕ)) → onto_first x ps ≡ [] → ⊥
    onto_some x [] h = cc
    onto_some x (p ∷ ps) h = cc

-- the pieces after the blank with which the text begins
abbrev later : List ℕ → List (List ℕ)
later [] = []
later (byte ∷ bytes) = between_blanks bytes

onto_front : (x : ℕ) (ps qs : List (List ℕ)) → ps ≢ [] → onto_first x (ps ++ qs) ≡ onto_first x ps ++ qs
onto_front x [] qs some = absurd (some refl)
onto_front x (p ∷ ps) qs some = refl

pieces_apart : (a b : List ℕ) → StartsBlank b → between_blanks (a ++ b) ≡ between_blanks a ++ later b
pieces_apart [] [] starts = refl
pieces_apart [] (x ∷ b) starts = rw starts refl
pieces_apart (x ∷ a) b starts = elim (is_blank x) as (λ t. (if t then [] ∷ between_blanks (a ++ b) else onto_first x (between_blanks (a ++ b))) ≡ (if t then [] ∷ between_blanks a else onto_first x (between_blanks a)) ++ later b) [
  | true ↦ ap (λ ps. [] ∷ ps) (pieces_apart a b starts)
  | false ↦ ap (onto_first x) (pieces_apart a b starts) ∙ onto_front x (between_blanks a) (later b) (some_piece a)
]

later_fields : (b : List ℕ) → StartsBlank b → filter is_some_text (later b) ≡ fields b
later_fields [] starts = refl
later_fields (x ∷ b) starts = rw starts refl

-- a front, and a rest that is nothing or begins with a blank
pub fields_apart : (a b : List ℕ) → StartsBlank b → fields (a ++ b) ≡ fields a ++ fields b
fields_apart a b starts =
    ap (filter is_some_text) (pieces_apart a b starts) ∙ (filter-append is_some_text (between_blanks a) (later b) ∙ ap (λ ps. fields a ++ ps) (later_fields b starts))

one_piece : (f : List ℕ) → HasNoBlank f → between_blanks f ≡ f ∷ []
one_piece [] one = refl
one_piece (x ∷ f) one = rw (one.0, one_piece f one.1) refl

pub one_field : (f : List ℕ) → HasNoBlank f → f ≢ [] → fields f ≡ f ∷ []
one_field [] one some = absurd (some refl)
one_field (x ∷ f) one some = ap (filter is_some_text) (one_piece (x ∷ f) one)

-- blanks are no field
pub blanks_then : (blanks text : List ℕ) → AreBlanks blanks → fields (blanks ++ text) ≡ fields text
blanks_then [] text are = refl
blanks_then (x ∷ blanks) text are = rw are.0 (blanks_then blanks text are.1)

pub no_fields : (blanks : List ℕ) → AreBlanks blanks → fields blanks ≡ []
no_fields [] are = refl
no_fields (x ∷ blanks) are = rw are.0 (no_fields blanks are.1)

blanks_start : (blanks : List ℕ) → AreBlanks blanks → StartsBlank blanks
blanks_start [] are = tt
blanks_start (x ∷ blanks) are = are.0

-- where a text begins with a blank, so does what is at its front, up to the end of a field
front_starts : (blanks f rest : List ℕ) → AreBlanks blanks → HasNoBlank f → f ≢ [] → StartsBlank (blanks ++ (f ++ rest)) → StartsBlank (blanks ++ f)
front_starts [] [] rest are one some starts = absurd (some refl)
front_starts [] (x ∷ f) rest are one some starts = absurd (let e : true ≡ false = sym starts ∙ one.0 in cc)
front_starts (x ∷ blanks) f rest are one some starts = are.0

some_len : (f : List ℕ) → f ≢ [] → 0 < length f
some_len [] some = absurd (some refl)
some_len (x ∷ f) some = omega arith

-- a next field is the first of the text's fields
pub first_is : (text : List ℕ) (gap : ℕ) (f rest : List ℕ) → IsNextField text gap f rest → fields text ≡ f ∷ fields rest
first_is text gap f rest next =
    ap fields next.text_is ∙ (blanks_then next.blanks (f ++ rest) next.are_blanks ∙ (fields_apart f rest next.ends ∙ ap (λ ps. ps ++ fields rest) (one_field f next.one next.some)))

-- the first field
pub read_first : (text first rest : List ℕ) → IsNextField text 0 first rest → HasRead text first [] rest
read_first text first rest next = record {
  front = first;
  text_is = next.text_is ∙ ap (λ b. b ++ (first ++ rest)) (none next.blanks next.gap_is);
  fields_are = one_field first next.one next.some;
  starts = next.ends;
}
  where
    none : (blanks : List ℕ) → length blanks ≡ 0 → blanks ≡ []
    none [] e = refl
    none (x ∷ blanks) e = absurd (omega arith)

module _ (text first : List ℕ) (done : List (List ℕ)) (left : List ℕ) (read : HasRead text first done left) where
  -- all fields, where only blanks are left
  pub read_all : AreBlanks left → fields text ≡ first ∷ done
  read_all blanks = ap fields read.text_is ∙ (fields_apart read.front left read.starts ∙ (ap (λ ps. fields read.front ++ ps) (no_fields left blanks) ∙ (append-nil (fields read.front) ∙ read.fields_are)))

  module _ (gap : ℕ) (f rest : List ℕ) (next : IsNextField left gap f rest) where
    -- a front with the blanks after it
    front_fields : fields (read.front ++ next.blanks) ≡ first ∷ done
    front_fields = fields_apart read.front next.blanks (blanks_start next.blanks next.are_blanks) ∙ (ap (λ ps. fields read.front ++ ps) (no_fields next.blanks next.are_blanks) ∙ (append-nil (fields read.front) ∙ read.fields_are))

    -- the field that comes next
    pub next_at : (byte : ℕ) → byte ≡ length text - length left + gap → FieldAt text f byte
    next_at byte place = record {
      front = read.front ++ next.blanks;
      rest = rest;
      text_is = read.text_is ∙ (ap (λ t. read.front ++ t) next.text_is ∙ sym (append_assoc read.front next.blanks (f ++ rest)));
      apart = ap fields read.text_is ∙ (fields_apart read.front left read.starts ∙ (ap (λ ps. fields read.front ++ ps) (first_is left gap f rest next) ∙ ap (λ ps. ps ++ f ∷ fields rest) (read.fields_are ∙ sym front_fields)));
      later = λ none. absurd (let e : first ∷ done ≡ [] = sym front_fields ∙ none in cc);
      at_is = omega (arith, place, next.gap_is, length-append read.front next.blanks, ap length read.text_is, length-append read.front left);
    }

    pub before_next : (byte : ℕ) (place : byte ≡ length text - length left + gap) → fields (next_at byte place).front ≡ first ∷ done
    unfolding next_at
    before_next byte place = front_fields

    -- the rest is shorter, and the field is within the text
    pub shorter : (length rest < length left) × (length text - length left + gap + length f ≤ length text)
    shorter =
        let some = some_len f next.some in
        let parts : length left ≡ gap + (length f + length rest) = omega (arith, ap length next.text_is, length-append next.blanks (f ++ rest), length-append f rest, next.gap_is) in
        let whole : length text ≡ length read.front + length left = ap length read.text_is ∙ length-append read.front left in
        (omega arith, omega arith)

    -- one field more
    pub read_more : HasRead text first (done ++ f ∷ []) rest
    read_more = record {
      front = read.front ++ (next.blanks ++ f);
      text_is = read.text_is ∙ (ap (λ t. read.front ++ t) (next.text_is ∙ sym (append_assoc next.blanks f rest)) ∙ sym (append_assoc read.front (next.blanks ++ f) rest));
      fields_are = fields_apart read.front (next.blanks ++ f) (front_starts next.blanks f rest next.are_blanks next.one next.some (subst StartsBlank next.text_is read.starts))
          ∙ (ap (λ ps. fields read.front ++ ps) (blanks_then next.blanks f next.are_blanks ∙ one_field f next.one next.some) ∙ ap (λ ps. ps ++ f ∷ []) read.fields_are);
      starts = next.ends;
    }
