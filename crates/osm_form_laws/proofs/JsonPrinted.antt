-- The text of JSON values, part by part.
use Rattle.std.proofs.Common.{◌≡◌, ℕ, List, [], ◌∷◌, ◌++◌, Bool, true, false, map, flat_map, fold, refl, sym, ap, ◌∙◌, append_assoc, append-nil}
use Rattle.std.specs.List.{join_with_byte}
use Rattle.std.proofs.lemmas.List.Sums.{fold-append}
use Rattle.json.specs.Json.{Json, null, boolean, number, string, array, object, Items, no_items, item, Members, no_members, member}
use Rattle.json.specs.Print.{ends, print_from, quoted}
use Rattle.json.specs.Token.{Token}
use Rattle.json.specs.Tree.{json_tokens, items_tokens, members_tokens}
use Rattle.json.proofs.Printed.Tokens.{print_from-append}
use Rattle.osm_model.specs.Bytes.{comma}
use Rattle.osm_form_laws.specs.JsonValues.{Named, array_of, items_of, members_of, object_of}
use Rattle.opl_codec.proofs.shared.AppendSteps.{join_with_byte-map}

-- the text of a value
abbrev pub text_of : Json → List ℕ
text_of j = print_from false (json_tokens j)

-- a member: its name, a colon, its value
abbrev pub named_text : Named → List ℕ
named_text named = (quoted named.0 ++ 58 ∷ []) ++ text_of named.1

-- ---- the tokens of a value end one

abbrev pub ended : Bool → List Token → Bool
ended c ts = fold (λ _ t. ends t) c ts

mutual
  value_ends : (j : Json) (c : Bool) → ended c (json_tokens j) ≡ true
  value_ends null c = refl
  value_ends (boolean b) c = refl
  value_ends (number s) c = refl
  value_ends (string s) c = refl
  value_ends (array js) c = items_end js false
  value_ends (object ms) c = members_end ms false

  items_end : (js : Items) (c : Bool) → ended c (items_tokens js) ≡ true
  items_end no_items c = refl
  items_end (item j js) c = fold-append (λ _ t. ends t) c (json_tokens j) (items_tokens js) ∙ items_end js (ended c (json_tokens j))

  pub members_end : (ms : Members) (c : Bool) → ended c (members_tokens ms) ≡ true
  members_end no_members c = refl
  members_end (member k j ms) c = fold-append (λ _ t. ends t) false (json_tokens j) (members_tokens ms) ∙ members_end ms (ended false (json_tokens j))

-- what stands after a value
pub value_then : (c : Bool) (j : Json) (ts : List Token) → print_from c (json_tokens j ++ ts) ≡ print_from c (json_tokens j) ++ print_from true ts
value_then c j ts = print_from-append c (json_tokens j) ts ∙ ap (λ b. print_from c (json_tokens j) ++ print_from b ts) (value_ends j c)

-- a comma stands before a value that isn't the first
pub next_value : (j : Json) → print_from true (json_tokens j) ≡ comma ∷ text_of j
unfolding print_from
next_value null = refl
next_value (boolean true) = refl
next_value (boolean false) = refl
next_value (number s) = refl
next_value (string s) = refl
next_value (array js) = refl
next_value (object ms) = refl

-- ---- numbers and strings

pub number_text : (s : List ℕ) → text_of (number s) ≡ s
unfolding print_from
number_text s = append-nil s

pub string_text : (s : List ℕ) → text_of (string s) ≡ quoted s
unfolding print_from
string_text s = append-nil (quoted s)

-- ---- arrays

next_items : (js : List Json) → print_from true (items_tokens (items_of js)) ≡ flat_map (λ j. comma ∷ text_of j) js ++ 93 ∷ []
unfolding print_from
next_items [] = refl
next_items (j ∷ js) =
    value_then true j (items_tokens (items_of js))
    ∙ (ap (λ front. front ++ print_from true (items_tokens (items_of js))) (next_value j)
    ∙ (ap (λ rest. (comma ∷ text_of j) ++ rest) (next_items js)
    ∙ sym (append_assoc (comma ∷ text_of j) (flat_map (λ j. comma ∷ text_of j) js) (93 ∷ []))))

first_items : (js : List Json) → print_from false (items_tokens (items_of js)) ≡ join_with_byte comma (map (λ j. text_of j) js) ++ 93 ∷ []
unfolding print_from
first_items [] = refl
first_items (j ∷ js) =
    value_then false j (items_tokens (items_of js))
    ∙ (ap (λ rest. text_of j ++ rest) (next_items js)
    ∙ (sym (append_assoc (text_of j) (flat_map (λ j. comma ∷ text_of j) js) (93 ∷ []))
    ∙ ap (λ all. all ++ 93 ∷ []) (sym (join_with_byte-map comma (λ j. text_of j) j js))))

pub array_text : (js : List Json) → text_of (array_of js) ≡ 91 ∷ (join_with_byte comma (map (λ j. text_of j) js) ++ 93 ∷ [])
unfolding print_from
array_text js = ap (λ rest. 91 ∷ rest) (first_items js)

-- ---- objects

-- the members, each after a comma
abbrev pub next_named : List Named → List ℕ
next_named ms = flat_map (λ m. comma ∷ named_text m) ms

key_then : (k : List ℕ) (j : Json) (ts : List Token) → print_from false (Token.key k ∷ (json_tokens j ++ ts)) ≡ named_text (k, j) ++ print_from true ts
unfolding print_from
key_then k j ts =
    ap (λ rest. (quoted k ++ 58 ∷ []) ++ rest) (value_then false j ts) ∙ sym (append_assoc (quoted k ++ 58 ∷ []) (text_of j) (print_from true ts))

key_next : (k : List ℕ) (j : Json) (ts : List Token) → print_from true (Token.key k ∷ (json_tokens j ++ ts)) ≡ (comma ∷ named_text (k, j)) ++ print_from true ts
unfolding print_from
key_next k j ts = ap (λ rest. comma ∷ rest) (key_then k j ts)

next_members : (ms : List Named) → print_from true (members_tokens (members_of ms)) ≡ next_named ms ++ 125 ∷ []
unfolding print_from
next_members [] = refl
next_members (m ∷ ms) =
    key_next m.0 m.1 (members_tokens (members_of ms))
    ∙ (ap (λ rest. (comma ∷ named_text m) ++ rest) (next_members ms)
    ∙ sym (append_assoc (comma ∷ named_text m) (next_named ms) (125 ∷ [])))

pub first_members : (m : Named) (ms : List Named) → print_from false (members_tokens (members_of (m ∷ ms))) ≡ named_text m ++ (next_named ms ++ 125 ∷ [])
first_members m ms = key_then m.0 m.1 (members_tokens (members_of ms)) ∙ ap (λ rest. named_text m ++ rest) (next_members ms)

pub object_text : (m : Named) (ms : List Named) → text_of (object_of (m ∷ ms)) ≡ 123 ∷ (named_text m ++ (next_named ms ++ 125 ∷ []))
unfolding print_from
object_text m ms = ap (λ rest. 123 ∷ rest) (first_members m ms)

-- members in the form of a list with commas
pub joined_members : (m : Named) (ms : List Named) → named_text m ++ next_named ms ≡ join_with_byte comma (map (λ m. named_text m) (m ∷ ms))
joined_members m ms = sym (join_with_byte-map comma (λ m. named_text m) m ms)
