-- How long escapes, texts with them and fields are.
use Rattle.std.proofs.Common.{◌≡◌, ◌↔◌, ℕ, ℤ, zero, suc, ◌+◌, ◌^◌, ◌≤◌, min, max, Option, Some, None, is_some, List, [], ◌∷◌, ◌++◌, length, map, Bool, true, false, if◌then◌else◌, refl, ◌∙◌, arith, length-append}
use Rattle.std.proofs.lemmas.List.Sums.{sum_by-append, sum_by-cons, sum_by_push}
use Rattle.std.proofs.lemmas.List.Concat.{length-flat_map}
use Rattle.std.specs.List.{join_with_byte, sum_by}
use Rattle.std.specs.Str.{chars}
use Rattle.osm_model.specs.internal.LineLength.{spaced_len, spaced_one, tag_len, node_len, member_len}
use Rattle.std.specs.Fmt.{signed_decimal}
use Rattle.osm_model.specs.Bytes.{comma}
use Rattle.osm_model.specs.Letters.{members_letter, nodes_letter, tags_letter}
use Rattle.osm_model.specs.Moments.{Moment}
use Rattle.osm_model.specs.declared.tag.Tag.{Tag}
use Rattle.osm_model.specs.declared.member.Member.{Member}
use Rattle.osm_model.specs.declared.body.Body.TheVariants.{Way, Rel}
use Rattle.osm_model.specs.Elements.{Element}
use Rattle.osm_model.specs.CanonicalLine.{canonical_line, all_fields, name_field, meta_fields, tags_field, body_fields, tag_text, node_text, member_text, moment, escaped, escaped_char, hex, hex_digits, hex_places, is_literal}

length_digits : (k n : ℕ) → length (hex_digits k n) ≡ k
length_digits zero n = refl
length_digits (suc k) n = let rest = length_digits k n in omega arith

pub length_of_hex : (c : ℕ) → length (hex c) ≡ hex_places c
unfolding hex
length_of_hex c = length_digits (hex_places c) c

by_case : (b : Bool) (c r : ℕ) → r ≡ (if b then 1 else 2 + hex_places c) → r ≡ length (if b then c ∷ [] else (37 ∷ hex c) ++ 37 ∷ [])
by_case true c r e = e
by_case false c r e = omega (arith, e, length-append (37 ∷ hex c) (37 ∷ []), length_of_hex c)

-- what stands for a character has one byte, or two more than its digits
pub length_of_escape : (c r : ℕ) → r ≡ (if is_literal c then 1 else 2 + hex_places c) → r ≡ length (escaped_char c)
length_of_escape c r e = by_case (is_literal c) c r e

-- how long a character is, escaped
abbrev pub escape_len : ℕ → ℕ
escape_len c = length (escaped_char c)

pub escaped_is : (text : List ℕ) → length (escaped text) ≡ sum_by escape_len (chars text)
unfolding escaped
escaped_is text = length-flat_map escaped_char (chars text)

-- one character more, in a sum that stays at its greatest
pub escape_step : (cs : List ℕ) (c len more new : ℕ) → more ≡ length (escaped_char c) → new ≡ min (len + more) 18446744073709551615
    → len ≡ min (sum_by escape_len cs) 18446744073709551615 → new ≡ min (sum_by escape_len (cs ++ c ∷ [])) 18446744073709551615
escape_step cs c len more new more_is new_is was = omega (arith, sum_by_push escape_len cs c)

-- texts with a byte between each two have one byte less than they have with one after each
pub joined_len : (b : ℕ) (text : List ℕ) (texts : List (List ℕ)) → length (join_with_byte b (text ∷ texts)) + 1 ≡ spaced_len (text ∷ texts)
joined_len b text [] = omega arith
joined_len b text (next ∷ texts) =
    let rest = joined_len b next texts in
    let joined = length-append text (b ∷ join_with_byte b (next ∷ texts)) in
    omega (arith, rest, joined, sum_by-cons spaced_one text (next ∷ texts))

mapped : {X : Type 0} (text : X → List ℕ) (xs : List X) → spaced_len (map text xs) ≡ sum_by (λ x. spaced_one (text x)) xs
mapped text [] = refl
mapped text (x ∷ xs) =
    let rest = mapped text xs in
    omega (arith, rest, sum_by-cons spaced_one (text x) (map text xs), sum_by-cons (λ y. spaced_one (text y)) x xs)

-- a field that lists texts: its letter stands for the byte that the last text lacks
pub list_field_len : {X : Type 0} (text : X → List ℕ) (xs : List X) (letter b : ℕ) → spaced_one (letter ∷ join_with_byte b (map text xs)) ≡ max (sum_by (λ x. spaced_one (text x)) xs) 1 + 1
list_field_len text [] letter b = refl
list_field_len text (x ∷ xs) letter b = omega (arith, joined_len b (text x) (map text xs), mapped text (x ∷ xs))

-- the fields have one byte more than the line
pub line_len : (o : Element) → length (canonical_line o) + 1 ≡ spaced_len (all_fields o)
unfolding canonical_line
line_len o = joined_len 32 (name_field o) (meta_fields o.meta ++ tags_field o.tags ∷ body_fields o.body)

-- the field that lists a way's nodes
pub way_field : (nodes : List ℤ) → spaced_len (body_fields (Way nodes)) ≡ max (sum_by node_len nodes) 1 + 1
way_field nodes =
    let field : spaced_one (nodes_letter ∷ join_with_byte comma (map node_text nodes)) ≡ max (sum_by node_len nodes) 1 + 1 = list_field_len node_text nodes nodes_letter comma in
    sum_by-cons spaced_one (nodes_letter ∷ join_with_byte comma (map node_text nodes)) [] ∙ omega (arith, field)

pub way_len : (nodes : List ℤ) (texts r : ℕ) → texts ≡ min (sum_by node_len nodes) 18446744073709551615 → r ≡ min (max texts 1 + 1) 18446744073709551615
    → r ≡ min (spaced_len (body_fields (Way nodes))) 18446744073709551615
way_len nodes texts r t e = omega (arith, way_field nodes)

-- the field that lists a relation's members
pub rel_field : (members : List Member) → spaced_len (body_fields (Rel members)) ≡ max (sum_by member_len members) 1 + 1
rel_field members =
    let field : spaced_one (members_letter ∷ join_with_byte comma (map member_text members)) ≡ max (sum_by member_len members) 1 + 1 = list_field_len member_text members members_letter comma in
    sum_by-cons spaced_one (members_letter ∷ join_with_byte comma (map member_text members)) [] ∙ omega (arith, field)

pub rel_len : (members : List Member) (texts r : ℕ) → texts ≡ min (sum_by member_len members) 18446744073709551615 → r ≡ min (max texts 1 + 1) 18446744073709551615
    → r ≡ min (spaced_len (body_fields (Rel members))) 18446744073709551615
rel_len members texts r t e = omega (arith, rel_field members)

pub tags_field_len : (tags : List Tag) → spaced_one (tags_field tags) ≡ max (sum_by tag_len tags) 1 + 1
tags_field_len tags = list_field_len tag_text tags tags_letter comma

-- all fields, from their parts
pub all_len : (o : Element) → spaced_len (all_fields o) ≡ spaced_one (name_field o) + spaced_len (meta_fields o.meta) + spaced_one (tags_field o.tags) + spaced_len (body_fields o.body)
all_len o =
    let split = sum_by-append spaced_one (name_field o ∷ meta_fields o.meta) (tags_field o.tags ∷ body_fields o.body) in
    let name = sum_by-cons spaced_one (name_field o) (meta_fields o.meta) in
    let tags = sum_by-cons spaced_one (tags_field o.tags) (body_fields o.body) in
    split ∙ omega (arith, name, tags)

-- the same in sums that stay at their greatest
pub fields_len : (o : Element) (name meta texts tags body sum more r : ℕ) → name ≡ min (1 + length (signed_decimal o.id) + 1) 18446744073709551615
    → meta ≡ min (spaced_len (meta_fields o.meta)) 18446744073709551615 → texts ≡ min (sum_by tag_len o.tags) 18446744073709551615 → tags ≡ min (max texts 1 + 1) 18446744073709551615
    → body ≡ min (spaced_len (body_fields o.body)) 18446744073709551615
    → sum ≡ min (name + meta) 18446744073709551615 → more ≡ min (sum + tags) 18446744073709551615 → r ≡ min (more + body) 18446744073709551615
    → r ≡ min (spaced_len (all_fields o)) 18446744073709551615
fields_len o name meta texts tags body sum more r n m t f b s u e =
    let field = tags_field_len o.tags in
    let letter : spaced_one (name_field o) ≡ 1 + length (signed_decimal o.id) + 1 = omega arith in
    let all = all_len o in
    omega arith

-- a line at its limit has one byte less than its fields
pub at_limit : (line fields r : ℕ) → line + 1 ≡ fields → r ≡ min fields 18446744073709551615 → (r ≤ 16777217) ↔ (line ≤ 2 ^ 24)
at_limit line fields r one sum = (λ h. omega arith, λ h. omega arith)

-- a stamp has twenty bytes
pub stamp_is : (stamp : Option Moment) → length (moment stamp) ≡ (if is_some stamp then 20 else 0)
unfolding moment
stamp_is None = refl
stamp_is (Some m) = refl
