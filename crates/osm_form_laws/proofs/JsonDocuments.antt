-- A JSON document spells the value of its objects.
use Rattle.std.proofs.Common.{◌≡◌, ℕ, List, [], ◌∷◌, ◌++◌, Bool, true, false, map, flat_map, drop, Option, Some, inr, option_and_then, codes, refl, sym, ap, ap₂, ◌∙◌, subst, arith, append_assoc, append-nil}
use Rattle.std.specs.List.{All, AllByRecursion}
use Rattle.std.proofs.lemmas.List.{map-append}
use Rattle.std.proofs.lemmas.List.Elements.{recursion_from_All}
use Rattle.json.specs.Json.{Json, document, if_last, max_depth, value}
use Rattle.json.specs.Lex.{tokens}
use Rattle.json.specs.Print.{ArePrintable, ends, print_from, separator, token_text, escape_byte}
use Rattle.json.specs.Spaced.{AreGaps, print_spaced}
use Rattle.json.specs.Token.{Token}
use Rattle.json.specs.Tree.{json_tokens, items_tokens, members_tokens}
use Rattle.json.proofs.Printed.Tokens.{tokens-print_spaced}
use Rattle.json.proofs.Printed.Trees.{ArePrintable-json_tokens, document-print, value-json_tokens}
use Rattle.osm_model.specs.Bytes.{comma, line_feed}
use Rattle.osm_model.specs.Elements.{Element}
use Rattle.osm_model.specs.Limits.{IsElement}
use Rattle.osm_model.specs.declared.out_mode.OutMode.{OutMode}
use Rattle.osm_model.specs.declared.out_mode.OutMode.TheVariants as modes
use Rattle.osm_forms.specs.Documents.{document_in, json_header, json_trailer}
use Rattle.osm_forms.specs.Forms.{form_text}
use Rattle.osm_forms.specs.JsonText.{json_of}
use Rattle.osm_form_laws.specs.JsonValues.{SpellsJson, document_value, items_of, members_of, object_members, object_value}
use Rattle.osm_forms.specs.declared.form.Form.TheVariants as forms
use Rattle.osm_form_laws.proofs.JsonDepths.{document_fine, object_value_fine}
use Rattle.osm_form_laws.proofs.JsonKeeps.{one_value_object}
use Rattle.osm_form_laws.proofs.JsonObjects.{json_of-value}
use Rattle.osm_form_laws.proofs.JsonTrailing.{tokens-trailing}
use Rattle.osm_form_laws.proofs.JsonPrinted.{ended, members_end}

-- a token with the blanks before it
abbrev Spaced : Type 0
Spaced = List ℕ × Token

abbrev tokens_of : List Spaced → List Token
tokens_of ps = map (λ p. p.1) ps

-- tokens without blanks
abbrev bare : List Token → List Spaced
bare ts = map (λ t. ([], t)) ts

print_spaced-bare : (c : Bool) (ts : List Token) → print_spaced c (bare ts) ≡ print_from c ts
unfolding print_spaced print_from
print_spaced-bare c [] = refl
print_spaced-bare c (t ∷ ts) = ap (λ rest. separator c t ++ (token_text t ++ rest)) (print_spaced-bare (ends t) ts)

tokens_of-bare : (ts : List Token) → tokens_of (bare ts) ≡ ts
tokens_of-bare [] = refl
tokens_of-bare (t ∷ ts) = ap (λ rest. t ∷ rest) (tokens_of-bare ts)

AreGaps-bare : (ts : List Token) → AreGaps (bare ts)
AreGaps-bare [] = tt
AreGaps-bare (t ∷ ts) = (tt, AreGaps-bare ts)

AreGaps-append : (ps qs : List Spaced) → AreGaps ps → AreGaps qs → AreGaps (ps ++ qs)
AreGaps-append [] qs h k = k
AreGaps-append (p ∷ ps) qs h k = (h.0, AreGaps-append ps qs h.1 k)

print_spaced-append : (c : Bool) (ps qs : List Spaced) → print_spaced c (ps ++ qs) ≡ print_spaced c ps ++ print_spaced (ended c (tokens_of ps)) qs
unfolding print_spaced
print_spaced-append c [] qs = refl
print_spaced-append c (p ∷ ps) qs =
    ap (λ rest. separator c p.1 ++ (p.0 ++ (token_text p.1 ++ rest))) (print_spaced-append (ends p.1) ps qs)
    ∙ sym (append_assoc (separator c p.1) _ _
    ∙ ap (λ rest. separator c p.1 ++ rest) (append_assoc p.0 _ _ ∙ ap (λ rest. p.0 ++ rest) (append_assoc (token_text p.1) _ _)))

-- ---- objects

module _ (mode : OutMode) where
  abbrev object_spaced : Element → List Spaced
  object_spaced o = (10 ∷ [], Token.begin_object) ∷ bare (members_tokens (members_of (object_members o mode)))

  abbrev objects_spaced : List Element → List Spaced
  objects_spaced objects = flat_map object_spaced objects

  object_tokens : (o : Element) → tokens_of (object_spaced o) ≡ json_tokens (object_value o mode)
  unfolding object_value
  object_tokens o = ap (λ ts. Token.begin_object ∷ ts) (tokens_of-bare (members_tokens (members_of (object_members o mode))))

  object_ends : (o : Element) (c : Bool) → ended c (tokens_of (object_spaced o)) ≡ true
  object_ends o c = ap (λ ts. ended false ts) (tokens_of-bare (members_tokens (members_of (object_members o mode)))) ∙ members_end (members_of (object_members o mode)) false

  inner_text : (o : Element) → IsElement o → 123 ∷ print_spaced false (bare (members_tokens (members_of (object_members o mode)))) ≡ json_of o mode
  unfolding print_from object_value
  inner_text o is = ap (λ rest. 123 ∷ rest) (print_spaced-bare false (members_tokens (members_of (object_members o mode)))) ∙ json_of-value o mode is

  object_text : (o : Element) (c : Bool) → IsElement o → print_spaced c (object_spaced o) ≡ separator c Token.begin_object ++ (10 ∷ json_of o mode)
  unfolding print_spaced
  object_text o c is = ap (λ rest. separator c Token.begin_object ++ (10 ∷ rest)) (inner_text o is)

  -- an object after a comma and a line feed
  abbrev next_text : Element → List ℕ
  next_text o = comma ∷ (line_feed ∷ json_of o mode)

  object_then : (o : Element) (c : Bool) (rest : List Spaced) → IsElement o → print_spaced c (object_spaced o ++ rest) ≡ (separator c Token.begin_object ++ (10 ∷ json_of o mode)) ++ print_spaced true rest
  object_then o c rest is =
      print_spaced-append c (object_spaced o) rest ∙ ap₂ (λ front b. front ++ print_spaced b rest) (object_text o c is) (object_ends o c)

  next_objects : (objects : List Element) (end : List Spaced) → AllByRecursion IsElement objects → print_spaced true (objects_spaced objects ++ end) ≡ flat_map next_text objects ++ print_spaced true end
  next_objects [] end all = refl
  next_objects (o ∷ objects) end all =
      ap (λ ps. print_spaced true ps) (append_assoc (object_spaced o) (objects_spaced objects) end)
      ∙ (object_then o true (objects_spaced objects ++ end) all.0
      ∙ (ap (λ rest. next_text o ++ rest) (next_objects objects end all.1)
      ∙ sym (append_assoc (next_text o) (flat_map next_text objects) (print_spaced true end))))

  first_objects : (objects : List Element) (end : List Spaced) → AllByRecursion IsElement objects → print_spaced false end ≡ print_spaced true end
      → print_spaced false (objects_spaced objects ++ end) ≡ drop 1 (flat_map next_text objects) ++ print_spaced true end
  first_objects [] end all same = same
  first_objects (o ∷ objects) end all same =
      ap (λ ps. print_spaced false ps) (append_assoc (object_spaced o) (objects_spaced objects) end)
      ∙ (object_then o false (objects_spaced objects ++ end) all.0
      ∙ (ap (λ rest. (10 ∷ json_of o mode) ++ rest) (next_objects objects end all.1)
      ∙ sym (append_assoc (10 ∷ json_of o mode) (flat_map next_text objects) (print_spaced true end))))

  objects_tokens : (objects : List Element) (end : List Token) → tokens_of (objects_spaced objects) ++ (Token.end_array ∷ end) ≡ items_tokens (items_of (map (λ o. object_value o mode) objects)) ++ end
  objects_tokens [] end = refl
  objects_tokens (o ∷ objects) end =
      ap (λ ts. ts ++ (Token.end_array ∷ end)) (map-append (λ p. p.1) (object_spaced o) (objects_spaced objects))
      ∙ (append_assoc (tokens_of (object_spaced o)) (tokens_of (objects_spaced objects)) (Token.end_array ∷ end)
      ∙ (ap₂ (λ front rest. front ++ rest) (object_tokens o) (objects_tokens objects end)
      ∙ sym (append_assoc (json_tokens (object_value o mode)) (items_tokens (items_of (map (λ o. object_value o mode) objects))) end)))

  objects_gaps : (objects : List Element) → AreGaps (objects_spaced objects)
  objects_gaps [] = tt
  objects_gaps (o ∷ objects) =
      AreGaps-append (object_spaced o) (objects_spaced objects) ((inr refl, tt), AreGaps-bare (members_tokens (members_of (object_members o mode)))) (objects_gaps objects)

  -- ---- documents

  abbrev head_tokens : List Token
  head_tokens =
      Token.begin_object ∷ Token.key (codes "version") ∷ Token.number (codes "0.6") ∷ Token.key (codes "generator") ∷ Token.string (codes "osm_mirror")
      ∷ Token.key (codes "elements") ∷ Token.begin_array ∷ []

  abbrev end_spaced : List Spaced
  end_spaced = (10 ∷ [], Token.end_array) ∷ ([], Token.end_object) ∷ []

  abbrev document_spaced : List Element → List Spaced
  document_spaced objects = bare head_tokens ++ (objects_spaced objects ++ end_spaced)

  -- what ends a document, but for its last line feed
  abbrev end_bytes : List ℕ
  end_bytes = 10 ∷ 93 ∷ 125 ∷ []

  end_text : (c : Bool) → print_spaced c end_spaced ≡ end_bytes
  unfolding print_spaced
  end_text true = refl
  end_text false = refl

  head_text : print_spaced false (bare head_tokens) ≡ json_header
  unfolding print_spaced escape_byte
  head_text = refl

  document_text : (objects : List Element) → AllByRecursion IsElement objects → print_spaced false (document_spaced objects) ≡ json_header ++ (drop 1 (flat_map next_text objects) ++ end_bytes)
  document_text objects all =
      print_spaced-append false (bare head_tokens) (objects_spaced objects ++ end_spaced)
      ∙ ap₂ (λ front rest. front ++ rest) head_text
      (first_objects objects end_spaced all (end_text false ∙ sym (end_text true)) ∙ ap (λ end. drop 1 (flat_map next_text objects) ++ end) (end_text true))

  whole_text : (objects : List Element) → AllByRecursion IsElement objects
      → json_header ++ (drop 1 (flat_map next_text objects) ++ json_trailer) ≡ print_spaced false (document_spaced objects) ++ 10 ∷ []
  whole_text objects all =
      let inner = drop 1 (flat_map next_text objects) in
      sym (ap (λ front. front ++ 10 ∷ []) (document_text objects all)
      ∙ (append_assoc json_header (inner ++ end_bytes) (10 ∷ []) ∙ ap (λ rest. json_header ++ rest) (append_assoc inner end_bytes (10 ∷ []))))

  document_tokens : (objects : List Element) → tokens_of (document_spaced objects) ≡ json_tokens (document_value objects mode)
  document_tokens objects =
      ap (λ ts. head_tokens ++ ts) (map-append (λ p. p.1) (objects_spaced objects) end_spaced ∙ objects_tokens objects (Token.end_object ∷ []))

  document_gaps : (objects : List Element) → AreGaps (document_spaced objects)
  document_gaps objects =
      AreGaps-append (bare head_tokens) _ (AreGaps-bare head_tokens) (AreGaps-append (objects_spaced objects) end_spaced (objects_gaps objects) ((inr refl, tt), (tt, tt)))

  pub json_document_spells : (objects : List Element) → All IsElement objects
      → SpellsJson (document_in forms.Json (flat_map (λ o. form_text forms.Json o mode) objects)) (document_value objects mode)
  unfolding document_in
  json_document_spells objects each =
      let all = recursion_from_All IsElement objects each in
      let said = document_value objects mode in
      let fine = document_fine objects mode all in
      let is = document_tokens objects in
      let printable = subst ArePrintable (sym is) (ArePrintable-json_tokens said fine.0) in
      let gaps = document_gaps objects in
      let read = tokens-trailing (document_spaced objects) gaps printable ∙ tokens-print_spaced (document_spaced objects) gaps printable in
      ap (option_and_then (λ p. if_last p.0 p.1))
      (ap (value max_depth) (ap tokens (whole_text objects all) ∙ (read ∙ (is ∙ sym (append-nil (json_tokens said)))))
      ∙ value-json_tokens said max_depth [] (omega (arith, fine.1)))

-- ---- one object

pub json_object_spells : (o : Element) (mode : OutMode) → IsElement o → SpellsJson (json_of o mode) (object_value o mode)
json_object_spells o mode is =
    let fine = object_value_fine o mode is in
    ap document (sym (json_of-value o mode is)) ∙ document-print (object_value o mode) fine.0 (omega (arith, fine.1))

pub one_json_object : (a b : Element) → IsElement a → IsElement b → json_of a modes.Meta ≡ json_of b modes.Meta → a ≡ b
one_json_object a b ha hb same =
    let both : ◌≡◌ {A = Option Json} (Some (object_value a modes.Meta)) (Some (object_value b modes.Meta)) = sym (json_object_spells a modes.Meta ha) ∙ (ap document same ∙ json_object_spells b modes.Meta hb) in
    one_value_object a b ha hb (let e : object_value a modes.Meta ≡ object_value b modes.Meta = cc in e)
