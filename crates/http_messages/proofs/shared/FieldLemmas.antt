-- Values that a loop has found.
use Rattle.std.proofs.Common.{◌≡◌, ◌<◌, ◌≤◌, ◌+◌, ◌*◌, ◌^◌, ℕ, true, false, List, [], ◌∷◌, refl, arith, length, take, get_or, ◌-◌, IsTrue, drop}
use Rattle.std.specs.Prelude.{Option, Some, None}
use Rattle.std.specs.Borrow.{Bor}
use Rattle.std.specs.Prelude.{map, ◌&&◌, nat_lt, nat_le, is_some}
use Rattle.std.proofs.lemmas.Bool.{and_parts}
use Rattle.std.proofs.lemmas.List.{drop_more}
use Rattle.httparse.specs.declared.spans.HeaderSpan.{HeaderSpan}
use Rattle.httparse.specs.Spans.{header_bytes}
use Rattle.http_messages.specs.Fields.{is_length, is_named, values_named}
use Rattle.std.specs.List.{list_all}
use Rattle.std.specs.Int.{IsInRange}
use Rattle.std.specs.Char.{is_ascii_digit, digit_value}
use Rattle.std.specs.Str.Parse.{digits_value}
use Rattle.std.proofs.lemmas.Bool.Decides.{nat_tests}
use Rattle.std.proofs.lemmas.List.Sums.{AllPass-from_list_all}
use Rattle.std.proofs.lemmas.List.Elements.{All-get_or}
use Rattle.std.proofs.lemmas.Int.Digits.{digits_value_more}
use Rattle.std.proofs.lemmas.Str.Parse.{digits_value_short, digits_value-take-le, numerals_by_value, tells_by_index}

abbrev pub found_values : Option (Bor (List ℕ)) → List (List ℕ)
found_values None = []
found_values (Some value) = value.now ∷ []

-- ---- digits

pub digits-in : (ds : List ℕ) → list_all is_ascii_digit ds ≡ true → (i : ℕ) → i < length ds → IsInRange 48 57 (get_or ds i 0)
digits-in ds all i inside =
    let is : is_ascii_digit (get_or ds i 0) ≡ true = All-get_or (λ b. IsTrue (is_ascii_digit b)) ds i 0 inside (AllPass-from_list_all is_ascii_digit ds all) in
    grind (arith, nat_tests)

pub digits-small : (ds : List ℕ) → list_all is_ascii_digit ds ≡ true → length ds ≤ 19 → digits_value 10 ds < 10 ^ 19
digits-small ds all short = digits_value_short (numerals_by_value _ tells_by_index) ds 19 (digits-in ds all) short

in_range-value : (c : ℕ) → IsInRange 48 57 c → digit_value c ≡ c - 48
in_range-value c h = grind (arith, nat_tests)

-- one digit more, still small
pub digits-more : (ds : List ℕ) (i : ℕ) → list_all is_ascii_digit ds ≡ true → length ds ≤ 19 → i < length ds
    → (digits_value 10 (take (i + 1) ds) ≡ digits_value 10 (take i ds) * 10 + (get_or ds i 0 - 48))
    × (digits_value 10 (take (i + 1) ds) < 10 ^ 19)
digits-more ds i all short inside =
    let value = in_range-value (get_or ds i 0) (digits-in ds all i inside) in
    let more = digits_value_more 10 ds i inside in
    let below = digits_value-take-le 10 ds (i + 1) (omega arith) in
    let small = digits-small ds all short in
    (rw value at more, omega arith)

pub length-parts : (ds : List ℕ) → is_length ds ≡ true → (length ds ≤ 19) × (list_all is_ascii_digit ds ≡ true)
length-parts ds is =
    let a = and_parts (nat_lt 0 (length ds)) (nat_le (length ds) 19 && list_all is_ascii_digit ds) is in
    let b = and_parts (nat_le (length ds) 19) (list_all is_ascii_digit ds) a.1 in
    (grind (arith, nat_tests), b.1)

-- ---- the fields that are left

abbrev pub empty_span : HeaderSpan
empty_span = record { name = record { start = 0; end = 0 }; value = record { start = 0; end = 0 } }

pub named-no : (name bytes : List ℕ) (headers : List HeaderSpan) (i : ℕ) → i < length headers
    → is_named name (header_bytes bytes (get_or headers i empty_span)) ≡ false
    → values_named name (map (header_bytes bytes) (drop i headers)) ≡ values_named name (map (header_bytes bytes) (drop (i + 1) headers))
named-no name bytes headers i inside other = rw (drop_more headers i empty_span inside, other) refl

pub named-yes : (name bytes : List ℕ) (headers : List HeaderSpan) (i : ℕ) → i < length headers
    → is_named name (header_bytes bytes (get_or headers i empty_span)) ≡ true
    → values_named name (map (header_bytes bytes) (drop i headers))
    ≡ (header_bytes bytes (get_or headers i empty_span)).1 ∷ values_named name (map (header_bytes bytes) (drop (i + 1) headers))
named-yes name bytes headers i inside same = rw (drop_more headers i empty_span inside, same) refl

pub found-none : (o : Option (Bor (List ℕ))) → false ≡ is_some o → found_values o ≡ []
found-none None e = refl
found-none (Some v) e = cc
