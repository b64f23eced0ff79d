-- The content of a line, and lines that say nothing.
use Rattle.std.proofs.Common.{◌≡◌, ◌≢◌, ℕ, zero, suc, ◌+◌, ◌<◌, ◌≤◌, List, [], ◌∷◌, ◌++◌, length, get_or, take, drop, true, false, ◌==◌, ◌&&◌, ◌||◌, refl, sym, ◌∙◌, ap, arith, eq-eqb}
use Rattle.std.specs.List.{list_all}
use Rattle.std.proofs.lemmas.Bool.{eqb-true, le-leb}
use Rattle.std.proofs.lemmas.Bool.Decides.{nat_tests}
use Rattle.opl_codec.specs.LineFields.{content, is_blank, is_comment}
use Rattle.opl_codec.specs.LineChanges.{is_skipped}
use Rattle.opl_codec.specs.declared.line.TheConstants.{LONGEST_LINE}
use Rattle.opl_codec.specs.internal.FieldCuts.{AreBlanks, StartsField}

pub some_len : (line : List ℕ) → line ≢ [] → 0 < length line
some_len [] some = absurd (some refl)
some_len (x ∷ line) some = omega arith

-- a CR at the end is dropped
pub content_cut : (line : List ℕ) (n : ℕ) → length line ≡ n + 1 → get_or line n 0 ≡ 13 → content line ≡ take n line
content_cut [] n len last = absurd (omega arith)
content_cut (b ∷ []) zero len last = rw last refl
content_cut (b ∷ []) (suc n) len last = absurd (omega arith)
content_cut (b ∷ next ∷ bytes) zero len last = absurd (omega arith)
content_cut (b ∷ next ∷ bytes) (suc n) len last = ap (λ t. b ∷ t) (content_cut (next ∷ bytes) n (omega arith) last)

-- nothing else is
pub content_whole : (line : List ℕ) (n : ℕ) → length line ≡ n + 1 → get_or line n 0 ≢ 13 → content line ≡ line
content_whole [] n len last = absurd (omega arith)
content_whole (b ∷ []) zero len last =
    let other : (b == 13) ≡ false = grind (arith, nat_tests, last) in
    rw other refl
content_whole (b ∷ []) (suc n) len last = absurd (omega arith)
content_whole (b ∷ next ∷ bytes) zero len last = absurd (omega arith)
content_whole (b ∷ next ∷ bytes) (suc n) len last = ap (λ t. b ∷ t) (content_whole (next ∷ bytes) n (omega arith) last)

pub content_none : (line : List ℕ) → length line < 1 → content line ≡ line
content_none [] len = refl
content_none (b ∷ line) len = absurd (omega arith)

-- the same of a text that is made of a front and a CR
pub content_front : (front : List ℕ) → content (front ++ 13 ∷ []) ≡ front
content_front [] = refl
content_front (x ∷ []) = refl
content_front (x ∷ y ∷ front) = ap (λ t. x ∷ t) (content_front (y ∷ front))

pub content_other : (text : List ℕ) → ((front : List ℕ) → text ≢ front ++ 13 ∷ []) → content text ≡ text
content_other [] other = refl
content_other (x ∷ []) other =
    let differs : (x == 13) ≡ false = grind (arith, nat_tests, λ (e : x ≡ 13). other [] (ap (λ b. b ∷ []) e)) in
    rw differs refl
content_other (x ∷ y ∷ text) other = ap (λ t. x ∷ t) (content_other (y ∷ text) (λ front e. other (x ∷ front) (ap (λ t. x ∷ t) e)))

-- all bytes are blanks, or one isn't
pub all_blank : (text : List ℕ) (n : ℕ) → n ≡ length text → AreBlanks (take n text) → list_all is_blank text ≡ true
all_blank [] n len are = refl
all_blank (x ∷ text) zero len are = absurd (omega arith)
all_blank (x ∷ text) (suc n) len are = rw are.0 (all_blank text n (omega arith) are.1)

pub some_other : (text : List ℕ) (n : ℕ) → n < length text → AreBlanks (take n text) → StartsField (drop n text) → list_all is_blank text ≡ false
some_other [] n lt are starts = absurd (omega arith)
some_other (x ∷ text) zero lt are starts = rw starts refl
some_other (x ∷ text) (suc n) lt are starts = rw are.0 (some_other text n (omega arith) are.1 starts)

pub no_comment : (line : List ℕ) → ((0 < length line) × (get_or line 0 0 ≡ 35) → ⊥) → is_comment line ≡ false
no_comment [] h = refl
no_comment (x ∷ line) h = let other : x ≢ 35 = λ e. h (omega arith, e) in grind (arith, nat_tests, other)

-- a line that is no comment is skipped where all of its content is blanks
pub skipped_is : (line text : List ℕ) (n : ℕ) → length line ≤ LONGEST_LINE → is_comment line ≡ false → text ≡ content line → n ≤ length text → AreBlanks (take n text) → StartsField (drop n text) → (n == length text) ≡ is_skipped line
skipped_is line text n short comment text_is within are starts = elim (n == length text) as (λ b. (n == length text) ≡ b → b ≡ is_skipped line) [
  | true ↦ λ e. sym (parts ∙ all_blank text n (eqb-true n (length text) e) are)
  | false ↦ λ e. sym (parts ∙ some_other text n (less e) are starts)
] refl
  where
    parts : is_skipped line ≡ list_all is_blank text
    parts = ap (λ b. b && (is_comment line || list_all is_blank (content line))) (le-leb (length line) LONGEST_LINE short) ∙ (ap (λ b. b || list_all is_blank (content line)) comment ∙ ap (λ t. list_all is_blank t) (sym text_is))

    less : (n == length text) ≡ false → n < length text
    less e = let other : n ≢ length text = λ same. absurd (let f : true ≡ false = sym (eq-eqb n (length text) same) ∙ e in cc) in omega arith

-- a line that is too long isn't skipped
pub long_unskipped : (line : List ℕ) → LONGEST_LINE < length line → is_skipped line ≢ true
long_unskipped line long e = grind (arith, nat_tests)
