-- A text made piece by piece.
use Rattle.std.proofs.Common.{◌≡◌, ◌≢◌, ℕ, ◌+◌, ◌-◌, ◌<◌, true, false, ◌==◌, Option, None, Some, List, ◌++◌, length, take, drop, get_or, sym, subst, ◌∙◌, ap, arith, append_assoc}
use Rattle.std.specs.Char.{encode_utf8}
use Rattle.std.specs.Option.{is_some}
use Rattle.std.specs.List.{slice_range}
use Rattle.std.specs.Str.Parse.{digits_value}
use Rattle.std.proofs.lemmas.Bool.Decides.{nat_tests}
use Rattle.memchr.specs.Find.{Nowhere, NoneBefore, Passes, IsFirstByte, is_byte}
use Rattle.opl_codec.specs.Texts.{SpellsText}
use Rattle.opl_codec.proofs.TextsJoined.{OneStep}

-- the first `%` of a text
pub record FirstMark (text : List ℕ) (len : ℕ) : Type 0 where
  pub within : len < length text
  pub here : get_or text len 0 ≡ 37
  pub none : (k : ℕ) → k < len → get_or text k 0 ≢ 37

byte_is : (byte : ℕ) → (byte == 37) ≡ true → byte ≡ 37
byte_is byte e = grind (arith, nat_tests)

byte_tested : (byte : ℕ) → byte ≡ 37 → (byte == 37) ≡ true
byte_tested byte e = grind (arith, nat_tests)

mark_from : (text : List ℕ) (len : ℕ) → NoneBefore (Passes (is_byte 37) text) 0 (length text) len × Passes (is_byte 37) text len → FirstMark text len
mark_from text len found = record {
  within = found.0.high;
  here = byte_is (get_or text len 0) found.1;
  none = λ k lt e. found.0.before k (omega arith) lt (byte_tested (get_or text k 0) e);
}

pub first_mark : (bytes text : List ℕ) (len : ℕ) → bytes ≡ text → NoneBefore (Passes (is_byte 37) bytes) 0 (length bytes) len × Passes (is_byte 37) bytes len → FirstMark text len
first_mark bytes text len same found = mark_from text len (subst (λ s. NoneBefore (Passes (is_byte 37) s) 0 (length s) len × Passes (is_byte 37) s len) same found)

pub no_mark : (bytes text : List ℕ) → bytes ≡ text → Nowhere (Passes (is_byte 37) bytes) 0 (length bytes) → (k : ℕ) → k < length text → get_or text k 0 ≢ 37
no_mark bytes text same nowhere =
    let P : List ℕ → Type 0 = λ s. Nowhere (Passes (is_byte 37) s) 0 (length s) in
    let none : P text = subst P same nowhere in
    λ k lt e. none k (omega arith) lt (byte_tested (get_or text k 0) e)

-- what the pieces so far mean, with one piece and one character more
pub means_more : (spelled text rest : List ℕ) (len n : ℕ) (before middle after piece : List ℕ) (code : ℕ) → ((t : List ℕ) → SpellsText text t → SpellsText spelled (before ++ t)) → OneStep text rest len n
    → middle ≡ before ++ piece → piece ≡ take len text → after ≡ middle ++ encode_utf8 code → digits_value 16 (take n (drop (len + 1) text)) ≡ code
    → (t : List ℕ) → SpellsText rest t → SpellsText spelled (after ++ t)
means_more spelled text rest len n before middle after piece code means step middle_is piece_is after_is code_is t h =
    let value = encode_utf8 code in
    let front = take len text in
    let said : SpellsText text (front ++ (value ++ t)) = subst (λ v. SpellsText text (front ++ (encode_utf8 v ++ t))) code_is (step.means t h) in
    let all : after ++ t ≡ before ++ (front ++ (value ++ t))
    = ap (λ s. s ++ t) after_is ∙ (append_assoc middle value t ∙ (ap (λ s. s ++ (value ++ t)) (middle_is ∙ ap (λ p. before ++ p) piece_is) ∙ append_assoc before front (value ++ t))) in
    subst (SpellsText spelled) (sym all) (means (front ++ (value ++ t)) said)

pub no_mark_found : (bytes text : List ℕ) (found : Option ℕ) → bytes ≡ text → is_some found ≡ false → IsFirstByte (is_byte 37) bytes found → (k : ℕ) → k < length text → get_or text k 0 ≢ 37
no_mark_found bytes text None same none first = no_mark bytes text same first
no_mark_found bytes text (Some len) same none first = absurd (no_path none)
  where
    no_path : true ≡ false → ⊥
    no_path e = cc

pub front_is : (text : List ℕ) (len : ℕ) → slice_range text 0 len ≡ take len text
front_is text len = let same : len - 0 ≡ len = omega arith in ap (λ n. take n text) same

-- all of the text that is left means itself
pub means_all : (spelled text before after : List ℕ) → ((t : List ℕ) → SpellsText text t → SpellsText spelled (before ++ t)) → SpellsText text text → after ≡ before ++ text → SpellsText spelled after
means_all spelled text before after means literal same = subst (SpellsText spelled) (sym same) (means text literal)
