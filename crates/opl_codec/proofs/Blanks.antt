-- Blanks at the beginning of a text, and texts without any.
use Rattle.std.proofs.Common.{◌≡◌, ℕ, zero, suc, ◌+◌, ◌<◌, ◌≤◌, List, [], ◌∷◌, ◌++◌, length, get_or, take, drop, Bool, true, false, ◌==◌, ◌||◌, refl, sym, ap, subst, arith, add-one, drop-cons, ◌≢◌, ◌∙◌, take-append-drop, length-drop}
use Rattle.std.proofs.lemmas.List.{length-take-le}
use Rattle.std.specs.List.{AllByRecursion}
use Rattle.std.specs.Str.{IsUtf8, IsCharBoundary}
use Rattle.std.proofs.lemmas.Str.{IsCharBoundary-after_ascii}
use Rattle.std.proofs.lemmas.Bool.{eqb-true}
use Rattle.opl_codec.specs.LineFields.{is_blank}
use Rattle.opl_codec.specs.internal.FieldCuts.{AreBlanks, HasNoBlank, StartsBlank, StartsField, IsNextField}

-- one byte more that the test answers so
one_more : (b : Bool) (bytes : List ℕ) (i : ℕ) → i < length bytes → AllByRecursion (λ byte. is_blank byte ≡ b) (take i bytes) → is_blank (get_or bytes i 0) ≡ b → AllByRecursion (λ byte. is_blank byte ≡ b) (take (suc i) bytes)
one_more b [] i lt all here = absurd (omega arith)
one_more b (byte ∷ bytes) zero lt all here = (here, tt)
one_more b (byte ∷ bytes) (suc i) lt all here = (all.0, one_more b bytes i (omega arith) all.1 here)

pub more : (b : Bool) (bytes : List ℕ) (i : ℕ) → i < length bytes → AllByRecursion (λ byte. is_blank byte ≡ b) (take i bytes) → is_blank (get_or bytes i 0) ≡ b → AllByRecursion (λ byte. is_blank byte ≡ b) (take (i + 1) bytes)
more b bytes i lt all here = rw add-one (one_more b bytes i lt all here)

pub starts_field : (bytes : List ℕ) (i : ℕ) → i < length bytes → is_blank (get_or bytes i 0) ≡ false → StartsField (drop i bytes)
starts_field bytes i lt h = rw (drop-cons bytes i 0 lt) h

pub starts_blank : (bytes : List ℕ) (i : ℕ) → i < length bytes → is_blank (get_or bytes i 0) ≡ true → StartsBlank (drop i bytes)
starts_blank bytes i lt h = rw (drop-cons bytes i 0 lt) h

-- the last of the blanks at the beginning is a blank
last_blank : (bytes : List ℕ) (n : ℕ) → suc n ≤ length bytes → AllByRecursion (λ byte. is_blank byte ≡ true) (take (suc n) bytes) → is_blank (get_or bytes n 0) ≡ true
last_blank [] n within all = absurd (omega arith)
last_blank (byte ∷ bytes) zero within all = all.0
last_blank (byte ∷ bytes) (suc n) within all = last_blank bytes n (omega arith) all.1

is_ascii : (byte : ℕ) → is_blank byte ≡ true → byte < 128
is_ascii byte h = below byte (byte == 32) (byte == 9) refl refl h
  where
    below : (byte : ℕ) (a b : Bool) → (byte == 32) ≡ a → (byte == 9) ≡ b → (a || b) ≡ true → byte < 128
    below byte true b e f h = let is = eqb-true byte 32 e in omega arith
    below byte false true e f h = let is = eqb-true byte 9 f in omega arith
    below byte false false e f h = cc

-- a text may be cut after blanks
pub boundary : (text : List ℕ) (n : ℕ) → IsUtf8 text → 0 < n → n ≤ length text → AllByRecursion (λ byte. is_blank byte ≡ true) (take n text) → IsCharBoundary text n
boundary text zero utf8 some within all = absurd (omega arith)
boundary text (suc n) utf8 some within all = subst (λ m. IsCharBoundary text m) (omega arith) (IsCharBoundary-after_ascii text n utf8 (omega arith) (is_ascii _ (last_blank text n within all)))

-- a field isn't empty where no blank comes first
field_some : (after : List ℕ) (len : ℕ) → 0 < length after → StartsField after → StartsBlank (drop len after) → take len after ≢ []
field_some [] len some starts ends none = omega arith
field_some (byte ∷ bytes) zero some starts ends none = cc
field_some (byte ∷ bytes) (suc len) some starts ends none = cc

-- the next field, from what was measured
pub next_is : (text : List ℕ) (gap : ℕ) (after field rest : List ℕ) (len : ℕ) → gap ≤ length text → (gap ≡ length text → ⊥) → AreBlanks (take gap text) → StartsField (drop gap text)
    → after ≡ drop gap text → HasNoBlank (take len after) → StartsBlank (drop len after) → field ≡ take len after → rest ≡ drop len after → IsNextField text gap field rest
next_is text gap after field rest len within not_all blanks starts after_is one ends field_is rest_is = record {
  blanks = take gap text;
  text_is = sym (take-append-drop gap text) ∙ ap (λ t. take gap text ++ t) (sym after_is ∙ (sym (take-append-drop len after) ∙ (ap (λ t. t ++ drop len after) (sym field_is) ∙ ap (λ t. field ++ t) (sym rest_is))));
  gap_is = length-take-le gap text within;
  are_blanks = blanks;
  some = λ none. field_some after len (omega (arith, ap (λ t. length t) after_is, length-drop gap text)) (subst StartsField (sym after_is) starts) ends (sym field_is ∙ none);
  one = subst HasNoBlank (sym field_is) one;
  ends = subst StartsBlank (sym rest_is) ends;
}
