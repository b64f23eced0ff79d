-- A record that stands in a text.
use Rattle.std.proofs.Common.{◌≡◌, ◌∙◌, sym, ap, refl, lit≤, ℕ, ◌+◌, ◌≤◌, List, [], ◌++◌, length, take, drop, arith, slice_range, append_assoc, length-append}
use Rattle.std.specs.Int.{w16, w32, from_be_bytes, to_be_bytes}
use Rattle.std.proofs.lemmas.Nat.{from_be_bytes-to_be_bytes_2, from_be_bytes-to_be_bytes_4}
use Rattle.std.proofs.lemmas.List.{drop-append-le, drop_at, take-append-le, take_at}
use Rattle.external_sort.specs.Records.{Entry, Fits}
use Rattle.external_sort.specs.internal.Spelling.{spelled}
use Rattle.external_sort.proofs.Parts.{part_grows, seam}

pub key_header_len : (n : ℕ) → length (to_be_bytes w16 n) ≡ 2
key_header_len n = refl

pub value_header_len : (n : ℕ) → length (to_be_bytes w32 n) ≡ 4
value_header_len n = refl

pub spelled_len : (e : Entry) → length (spelled e) ≡ 6 + length e.key + length e.value
spelled_len e =
    omega (arith, length-append (to_be_bytes w16 (length e.key)) (to_be_bytes w32 (length e.value) ++ (e.key ++ e.value)), length-append (to_be_bytes w32 (length e.value)) (e.key ++ e.value), length-append e.key e.value, key_header_len (length e.key), value_header_len (length e.value))

-- the parts of a record after other bytes
pub key_there : (a : List ℕ) (e : Entry) (tail : List ℕ) → slice_range (a ++ (spelled e ++ tail)) (length a + 6) (length a + 6 + length e.key) ≡ e.key
key_there a e tail =
    let h = to_be_bytes w16 (length e.key) in
    let v = to_be_bytes w32 (length e.value) in
    let front : List ℕ = (a ++ h) ++ v in
    let long : length front ≡ length a + 6 = omega (arith, length-append (a ++ h) v, length-append a h, key_header_len (length e.key), value_header_len (length e.value)) in
    let same : a ++ (spelled e ++ tail) ≡ front ++ (e.key ++ (e.value ++ tail)) = simp append_assoc in
    ap (λ (l : List ℕ). slice_range l (length a + 6) (length a + 6 + length e.key)) same ∙ seam front e.key (e.value ++ tail) _ _ long refl

pub value_there : (a : List ℕ) (e : Entry) (tail : List ℕ) → slice_range (a ++ (spelled e ++ tail)) (length a + 6 + length e.key) (length a + 6 + length e.key + length e.value) ≡ e.value
value_there a e tail =
    let h = to_be_bytes w16 (length e.key) in
    let v = to_be_bytes w32 (length e.value) in
    let front : List ℕ = ((a ++ h) ++ v) ++ e.key in
    let long : length front ≡ length a + 6 + length e.key = omega (arith, length-append ((a ++ h) ++ v) e.key, length-append (a ++ h) v, length-append a h, key_header_len (length e.key), value_header_len (length e.value)) in
    let same : a ++ (spelled e ++ tail) ≡ front ++ (e.value ++ tail) = simp append_assoc in
    ap (λ (l : List ℕ). slice_range l (length a + 6 + length e.key) (length a + 6 + length e.key + length e.value)) same ∙ seam front e.value tail _ _ long refl

-- what a text that begins with a record has at its front, if only a part of it is there
pub key_len_read : (w after : List ℕ) (e : Entry) (tail : List ℕ) → Fits e → w ++ after ≡ spelled e ++ tail → 6 ≤ length w → from_be_bytes w16 (take 2 w) ≡ length e.key
key_len_read w after e tail fits is long =
    let h = to_be_bytes w16 (length e.key) in
    let v = to_be_bytes w32 (length e.value) in
    let few : 2 ≤ length w = omega arith in
    let same : spelled e ++ tail ≡ h ++ (v ++ (e.key ++ (e.value ++ tail))) = simp append_assoc in
    let front : take 2 w ≡ h = sym (take-append-le 2 w after few) ∙ ap (λ (l : List ℕ). take 2 l) (is ∙ same) ∙ take_at h (v ++ (e.key ++ (e.value ++ tail))) 2 (key_header_len (length e.key)) in
    ap (λ (l : List ℕ). from_be_bytes w16 l) front ∙ from_be_bytes-to_be_bytes_2 (length e.key) fits.key

pub value_len_read : (w after : List ℕ) (e : Entry) (tail : List ℕ) → Fits e → w ++ after ≡ spelled e ++ tail → 6 ≤ length w → from_be_bytes w32 (take 4 (drop 2 w)) ≡ length e.value
value_len_read w after e tail fits is long =
    let h = to_be_bytes w16 (length e.key) in
    let v = to_be_bytes w32 (length e.value) in
    let same : w ++ after ≡ h ++ (v ++ (e.key ++ (e.value ++ tail))) = is ∙ simp append_assoc in
    let part : slice_range (w ++ after) 2 6 ≡ slice_range w 2 6 = part_grows w after 2 6 (lit≤ tt) long in
    let there : slice_range (w ++ after) 2 6 ≡ v = ap (λ (l : List ℕ). slice_range l 2 6) same ∙ seam h v (e.key ++ (e.value ++ tail)) 2 6 (key_header_len (length e.key)) (ap (λ (n : ℕ). 2 + n) (value_header_len (length e.value))) in
    ap (λ (l : List ℕ). from_be_bytes w32 l) (sym part ∙ there) ∙ from_be_bytes-to_be_bytes_4 (length e.value) fits.value

pub record Parsed (w after : List ℕ) (e : Entry) (tail : List ℕ) : Type 0 where
  pub key : slice_range w 6 (6 + length e.key) ≡ e.key
  pub value : slice_range w (6 + length e.key) (6 + length e.key + length e.value) ≡ e.value
  pub left : drop (6 + length e.key + length e.value) w ++ after ≡ tail

pub parsed : (w after : List ℕ) (e : Entry) (tail : List ℕ) → w ++ after ≡ spelled e ++ tail → 6 + length e.key + length e.value ≤ length w → Parsed w after e tail
parsed w after e tail is long =
    let six : 6 ≤ 6 + length e.key = omega arith in
    let key_in : 6 + length e.key ≤ length w = omega arith in
    let up : 6 + length e.key ≤ 6 + length e.key + length e.value = omega arith in
    let k = ap (λ (l : List ℕ). slice_range l 6 (6 + length e.key)) is in
    let v = ap (λ (l : List ℕ). slice_range l (6 + length e.key) (6 + length e.key + length e.value)) is in
    record {
      key = sym (part_grows w after 6 (6 + length e.key) six key_in) ∙ k ∙ key_there [] e tail;
      value = sym (part_grows w after (6 + length e.key) (6 + length e.key + length e.value) up long) ∙ v ∙ value_there [] e tail;
      left = sym (drop-append-le (6 + length e.key + length e.value) w after long) ∙ ap (λ (l : List ℕ). drop (6 + length e.key + length e.value) l) is ∙ drop_at (spelled e) tail (6 + length e.key + length e.value) (spelled_len e);
    }
