-- An XML text spells at most one tree.
use Rattle.std.proofs.Common.{◌≡◌, ℕ, ◌<◌, ◌≤◌, List, [], ◌∷◌, ◌++◌, map, flat_map, inl, inr, ◌⊎◌, refl, sym, ap, ap₂, ◌∙◌, subst, arith, append_assoc}
use Rattle.std.specs.Bool.{⊤}
use Rattle.std.specs.List.{AllByRecursion}
use Rattle.std.specs.Prelude.{encode_utf8}
use Rattle.std.specs.Str.Parse.{digits_value}
use Rattle.std.proofs.lemmas.Str.{encode_ascii, encode_same}
use Rattle.osm_model.proofs.shared.Digits.{same_front}
use Rattle.osm_form_laws.specs.XmlDocuments.{Ampersand, Attribute, Content, GreaterThan, HasTags, IsName, IsWritten, Itself, LessThan, Numbered, Quote, SpellsAttribute, SpellsAttributes, SpellsContent, SpellsTree, SpellsValue, Tree, Written, child, element, line_end, meaning, nothing, one_tag, spelling, with_tags}

-- ---- bytes

same_head : (a b : ℕ) (x y : List ℕ) → a ∷ x ≡ b ∷ y → a ≡ b
same_head a b x y e = cc

same_tail : (a b : ℕ) (x y : List ℕ) → a ∷ x ≡ b ∷ y → x ≡ y
same_tail a b x y e = cc

second_byte : (a b : ℕ) (x y : List ℕ) → 38 ∷ a ∷ x ≡ 38 ∷ b ∷ y → a ≡ b
second_byte a b x y e = cc

-- ---- values

same_itself : (c d : ℕ) (q r : List ℕ) → encode_utf8 c ++ q ≡ encode_utf8 d ++ r → (c ≡ d) × (q ≡ r)
same_itself c d q r e = encode_same c d q r e

-- a character that begins with an ASCII byte is that byte
ascii_first : (c n : ℕ) (q r : List ℕ) → n < 128 → encode_utf8 c ++ q ≡ n ∷ r → c ≡ n
ascii_first c n q r small e = (encode_same c n q r (e ∙ sym (ap (λ (l : List ℕ). l ++ r) (encode_ascii n small)))).0

same_numbered : (ds es q r : List ℕ) → IsWritten (Numbered ds) → IsWritten (Numbered es) → spelling (Numbered ds) ++ q ≡ spelling (Numbered es) ++ r → (digits_value 10 ds ≡ digits_value 10 es) × (q ≡ r)
same_numbered ds es q r is it e =
    let after : (ds ++ 59 ∷ []) ++ q ≡ (es ++ 59 ∷ []) ++ r = same_tail 35 35 _ _ (same_tail 38 38 _ _ e) in
    let flat : ds ++ (59 ∷ q) ≡ es ++ (59 ∷ r) = sym (append_assoc ds (59 ∷ []) q) ∙ (after ∙ append_assoc es (59 ∷ []) r) in
    let both = same_front ds es (59 ∷ q) (59 ∷ r) is.0.1 it.0.1 (omega arith) (omega arith) flat in
    (ap (digits_value 10) both.0, same_tail 59 59 q r both.1)

one_written : (v w : Written) (q r : List ℕ) → IsWritten v → IsWritten w → spelling v ++ q ≡ spelling w ++ r → (meaning v ≡ meaning w) × (q ≡ r)
one_written (Itself c) (Itself d) q r is it e = same_itself c d q r e
one_written (Itself c) Ampersand q r is it e = absurd (is.1 (ascii_first c 38 q _ (omega arith) e))
one_written (Itself c) LessThan q r is it e = absurd (is.1 (ascii_first c 38 q _ (omega arith) e))
one_written (Itself c) GreaterThan q r is it e = absurd (is.1 (ascii_first c 38 q _ (omega arith) e))
one_written (Itself c) Quote q r is it e = absurd (is.1 (ascii_first c 38 q _ (omega arith) e))
one_written (Itself c) (Numbered es) q r is it e = absurd (is.1 (ascii_first c 38 q _ (omega arith) e))
one_written Ampersand (Itself d) q r is it e = absurd (it.1 (ascii_first d 38 r _ (omega arith) (sym e)))
one_written LessThan (Itself d) q r is it e = absurd (it.1 (ascii_first d 38 r _ (omega arith) (sym e)))
one_written GreaterThan (Itself d) q r is it e = absurd (it.1 (ascii_first d 38 r _ (omega arith) (sym e)))
one_written Quote (Itself d) q r is it e = absurd (it.1 (ascii_first d 38 r _ (omega arith) (sym e)))
one_written (Numbered ds) (Itself d) q r is it e = absurd (it.1 (ascii_first d 38 r _ (omega arith) (sym e)))
one_written Ampersand Ampersand q r is it e = (refl, same_tail _ _ _ _ (same_tail _ _ _ _ (same_tail _ _ _ _ (same_tail _ _ _ _ (same_tail _ _ _ _ e)))))
one_written LessThan LessThan q r is it e = (refl, same_tail _ _ _ _ (same_tail _ _ _ _ (same_tail _ _ _ _ (same_tail _ _ _ _ e))))
one_written GreaterThan GreaterThan q r is it e = (refl, same_tail _ _ _ _ (same_tail _ _ _ _ (same_tail _ _ _ _ (same_tail _ _ _ _ e))))
one_written Quote Quote q r is it e = (refl, same_tail _ _ _ _ (same_tail _ _ _ _ (same_tail _ _ _ _ (same_tail _ _ _ _ (same_tail _ _ _ _ (same_tail _ _ _ _ e))))))
one_written (Numbered ds) (Numbered es) q r is it e = same_numbered ds es q r is it e
one_written Ampersand LessThan q r is it e = absurd (let same : 97 ≡ 108 = second_byte _ _ _ _ e in omega (arith, same))
one_written Ampersand GreaterThan q r is it e = absurd (let same : 97 ≡ 103 = second_byte _ _ _ _ e in omega (arith, same))
one_written Ampersand Quote q r is it e = absurd (let same : 97 ≡ 113 = second_byte _ _ _ _ e in omega (arith, same))
one_written Ampersand (Numbered es) q r is it e = absurd (let same : 97 ≡ 35 = second_byte _ _ _ _ e in omega (arith, same))
one_written LessThan Ampersand q r is it e = absurd (let same : 108 ≡ 97 = second_byte _ _ _ _ e in omega (arith, same))
one_written LessThan GreaterThan q r is it e = absurd (let same : 108 ≡ 103 = second_byte _ _ _ _ e in omega (arith, same))
one_written LessThan Quote q r is it e = absurd (let same : 108 ≡ 113 = second_byte _ _ _ _ e in omega (arith, same))
one_written LessThan (Numbered es) q r is it e = absurd (let same : 108 ≡ 35 = second_byte _ _ _ _ e in omega (arith, same))
one_written GreaterThan Ampersand q r is it e = absurd (let same : 103 ≡ 97 = second_byte _ _ _ _ e in omega (arith, same))
one_written GreaterThan LessThan q r is it e = absurd (let same : 103 ≡ 108 = second_byte _ _ _ _ e in omega (arith, same))
one_written GreaterThan Quote q r is it e = absurd (let same : 103 ≡ 113 = second_byte _ _ _ _ e in omega (arith, same))
one_written GreaterThan (Numbered es) q r is it e = absurd (let same : 103 ≡ 35 = second_byte _ _ _ _ e in omega (arith, same))
one_written Quote Ampersand q r is it e = absurd (let same : 113 ≡ 97 = second_byte _ _ _ _ e in omega (arith, same))
one_written Quote LessThan q r is it e = absurd (let same : 113 ≡ 108 = second_byte _ _ _ _ e in omega (arith, same))
one_written Quote GreaterThan q r is it e = absurd (let same : 113 ≡ 103 = second_byte _ _ _ _ e in omega (arith, same))
one_written Quote (Numbered es) q r is it e = absurd (let same : 113 ≡ 35 = second_byte _ _ _ _ e in omega (arith, same))
one_written (Numbered ds) Ampersand q r is it e = absurd (let same : 35 ≡ 97 = second_byte _ _ _ _ e in omega (arith, same))
one_written (Numbered ds) LessThan q r is it e = absurd (let same : 35 ≡ 108 = second_byte _ _ _ _ e in omega (arith, same))
one_written (Numbered ds) GreaterThan q r is it e = absurd (let same : 35 ≡ 103 = second_byte _ _ _ _ e in omega (arith, same))
one_written (Numbered ds) Quote q r is it e = absurd (let same : 35 ≡ 113 = second_byte _ _ _ _ e in omega (arith, same))

-- no character of a value begins with the quote
not_quote : (w : Written) (q r : List ℕ) → IsWritten w → 34 ∷ q ≡ spelling w ++ r → ⊥
not_quote (Itself c) q r is e = is.3 (ascii_first c 34 r q (omega arith) (sym e))
not_quote Ampersand q r is e = let same = same_head 34 38 q _ e in omega (arith, same)
not_quote LessThan q r is e = let same = same_head 34 38 q _ e in omega (arith, same)
not_quote GreaterThan q r is e = let same = same_head 34 38 q _ e in omega (arith, same)
not_quote Quote q r is e = let same = same_head 34 38 q _ e in omega (arith, same)
not_quote (Numbered ds) q r is e = let same = same_head 34 38 q _ e in omega (arith, same)

same_values : (vs ws : List Written) (q r : List ℕ) → AllByRecursion IsWritten vs → AllByRecursion IsWritten ws → flat_map spelling vs ++ (34 ∷ q) ≡ flat_map spelling ws ++ (34 ∷ r)
    → (map meaning vs ≡ map meaning ws) × (q ≡ r)
same_values [] [] q r is it e = (refl, same_tail 34 34 q r e)
same_values [] (w ∷ ws) q r is it e = absurd (not_quote w q (flat_map spelling ws ++ (34 ∷ r)) it.0 (e ∙ append_assoc (spelling w) (flat_map spelling ws) (34 ∷ r)))
same_values (v ∷ vs) [] q r is it e = absurd (not_quote v r (flat_map spelling vs ++ (34 ∷ q)) is.0 (sym e ∙ append_assoc (spelling v) (flat_map spelling vs) (34 ∷ q)))
same_values (v ∷ vs) (w ∷ ws) q r is it e =
    let one = one_written v w (flat_map spelling vs ++ (34 ∷ q)) (flat_map spelling ws ++ (34 ∷ r)) is.0 it.0 (sym (append_assoc (spelling v) (flat_map spelling vs) (34 ∷ q)) ∙ (e ∙ append_assoc (spelling w) (flat_map spelling ws) (34 ∷ r))) in
    let rest = same_values vs ws q r is.1 it.1 one.1 in
    (ap₂ (λ x xs. x ∷ xs) one.0 rest.0, rest.1)

same_value : (s t cs ds q r : List ℕ) → SpellsValue s cs → SpellsValue t ds → s ++ (34 ∷ q) ≡ t ++ (34 ∷ r) → (cs ≡ ds) × (q ≡ r)
same_value s t cs ds q r h k e =
    let both = same_values h.written k.written q r h.are k.are (ap (λ (l : List ℕ). l ++ (34 ∷ q)) (sym h.text_is) ∙ (e ∙ ap (λ (l : List ℕ). l ++ (34 ∷ r)) k.text_is)) in
    (h.characters_are ∙ (both.0 ∙ sym k.characters_are), both.1)

-- ---- names

abbrev IsLetter : ℕ → Type 0
IsLetter b = (97 ≤ b) × (b ≤ 122)

-- a letter doesn't come first
abbrev BeginsOther : List ℕ → Type 0
BeginsOther [] = ⊤
BeginsOther (b ∷ bytes) = IsLetter b → ⊥

no_letter : (q : List ℕ) (b : ℕ) (rest : List ℕ) → BeginsOther q → IsLetter b → q ≡ b ∷ rest → ⊥
no_letter [] b rest other is e = absurd (let f : ◌≡◌ {A = List ℕ} [] (b ∷ rest) = e in cc)
no_letter (a ∷ q) b rest other is e = other (subst IsLetter (sym (same_head a b q rest e)) is)

same_name : (m n q r : List ℕ) → AllByRecursion IsLetter m → AllByRecursion IsLetter n → BeginsOther q → BeginsOther r → m ++ q ≡ n ++ r → (m ≡ n) × (q ≡ r)
same_name [] [] q r is it hq hr e = (refl, e)
same_name [] (b ∷ n) q r is it hq hr e = absurd (no_letter q b (n ++ r) hq it.0 e)
same_name (a ∷ m) [] q r is it hq hr e = absurd (no_letter r a (m ++ q) hr is.0 (sym e))
same_name (a ∷ m) (b ∷ n) q r is it hq hr e =
    let rest = same_name m n q r is.1 it.1 hq hr (same_tail a b (m ++ q) (n ++ r) e) in
    (ap₂ (λ x xs. x ∷ xs) (same_head a b (m ++ q) (n ++ r) e) rest.0, rest.1)

-- ---- attributes

flat_attribute : (s : List ℕ) (a : Attribute) (q : List ℕ) (h : SpellsAttribute s a) → s ++ q ≡ 32 ∷ (a.name ++ (61 ∷ 34 ∷ (h.value ++ (34 ∷ q))))
flat_attribute s a q h =
    ap (λ (l : List ℕ). l ++ q) h.text_is
    ∙ ap (λ (l : List ℕ). 32 ∷ l) (append_assoc a.name (61 ∷ 34 ∷ (h.value ++ 34 ∷ [])) q ∙ ap (λ (l : List ℕ). a.name ++ (61 ∷ 34 ∷ l)) (append_assoc h.value (34 ∷ []) q))

same_attribute : (a b : Attribute) (s t q r : List ℕ) → SpellsAttribute s a → SpellsAttribute t b → s ++ q ≡ t ++ r → (a ≡ b) × (q ≡ r)
same_attribute a b s t q r h k e =
    let flat = same_tail 32 32 _ _ (sym (flat_attribute s a q h) ∙ (e ∙ flat_attribute t b r k)) in
    let named = same_name a.name b.name (61 ∷ 34 ∷ (h.value ++ (34 ∷ q))) (61 ∷ 34 ∷ (k.value ++ (34 ∷ r))) h.named.1 k.named.1 (λ is. let low = is.0 in omega arith) (λ is. let low = is.0 in omega arith) flat in
    let value = same_value h.value k.value a.value b.value q r h.spelled k.spelled (same_tail 34 34 _ _ (same_tail 61 61 _ _ named.1)) in
    let made : List ℕ → List ℕ → Attribute = λ name value. record { name = name; value = value } in
    (ap₂ made named.0 value.0, value.1)

-- a space doesn't come first, nor a letter
abbrev EndsTag : List ℕ → Type 0
EndsTag [] = ⊥
EndsTag (b ∷ bytes) = (b ≡ 62) ⊎ (b ≡ 47)

no_space : (q rest : List ℕ) → EndsTag q → q ≡ 32 ∷ rest → ⊥
no_space [] rest ends e = ends
no_space (b ∷ q) rest (inl is) e = let same = same_head b 32 q rest e in omega (arith, is, same)
no_space (b ∷ q) rest (inr is) e = let same = same_head b 32 q rest e in omega (arith, is, same)

same_attributes : (xs ys : List Attribute) (s t q r : List ℕ) → SpellsAttributes s xs → SpellsAttributes t ys → EndsTag q → EndsTag r → s ++ q ≡ t ++ r → (xs ≡ ys) × (q ≡ r)
same_attributes [] [] s t q r h k hq hr e = (refl, sym (ap (λ (l : List ℕ). l ++ q) h) ∙ (e ∙ ap (λ (l : List ℕ). l ++ r) k))
same_attributes [] (b ∷ ys) s t q r h k hq hr e =
    absurd (no_space q _ hq (sym (ap (λ (l : List ℕ). l ++ q) h) ∙ (e ∙ (ap (λ (l : List ℕ). l ++ r) k.2 ∙ (append_assoc k.0 k.1 r ∙ flat_attribute k.0 b (k.1 ++ r) k.3)))))
same_attributes (a ∷ xs) [] s t q r h k hq hr e =
    absurd (no_space r _ hr (sym (ap (λ (l : List ℕ). l ++ r) k) ∙ (sym e ∙ (ap (λ (l : List ℕ). l ++ q) h.2 ∙ (append_assoc h.0 h.1 q ∙ flat_attribute h.0 a (h.1 ++ q) h.3)))))
same_attributes (a ∷ xs) (b ∷ ys) s t q r h k hq hr e =
    let flat = sym (ap (λ (l : List ℕ). l ++ q) h.2 ∙ append_assoc h.0 h.1 q) ∙ (e ∙ (ap (λ (l : List ℕ). l ++ r) k.2 ∙ append_assoc k.0 k.1 r)) in
    let one = same_attribute a b h.0 k.0 (h.1 ++ q) (k.1 ++ r) h.3 k.3 flat in
    let rest = same_attributes xs ys h.1 k.1 q r h.4 k.4 hq hr one.1 in
    (ap₂ (λ x xs. x ∷ xs) one.0 rest.0, rest.1)

-- what follows a name in a tag is no letter
attributes_begin : (s q : List ℕ) (xs : List Attribute) → SpellsAttributes s xs → EndsTag q → BeginsOther (s ++ q)
attributes_begin s [] [] h ends = absurd ends
attributes_begin s (b ∷ q) [] h (inl is) = subst (λ (l : List ℕ). BeginsOther (l ++ (b ∷ q))) (sym h) (λ letter. let low = letter.0 in omega (arith, is))
attributes_begin s (b ∷ q) [] h (inr is) = subst (λ (l : List ℕ). BeginsOther (l ++ (b ∷ q))) (sym h) (λ letter. let low = letter.0 in omega (arith, is))
attributes_begin s q (a ∷ xs) h ends =
    subst BeginsOther (sym (ap (λ (l : List ℕ). l ++ q) h.2 ∙ (append_assoc h.0 h.1 q ∙ flat_attribute h.0 a (h.1 ++ q) h.3))) (λ letter. let low = letter.0 in omega arith)

same_start : (m n s t q r : List ℕ) (xs ys : List Attribute) → IsName m → IsName n → SpellsAttributes s xs → SpellsAttributes t ys → EndsTag q → EndsTag r → 60 ∷ (m ++ (s ++ q)) ≡ 60 ∷ (n ++ (t ++ r))
    → (m ≡ n) × (xs ≡ ys) × (q ≡ r)
same_start m n s t q r xs ys im in' h k hq hr e =
    let named = same_name m n (s ++ q) (t ++ r) im.1 in'.1 (attributes_begin s q xs h hq) (attributes_begin t r ys k hr) (same_tail 60 60 _ _ e) in
    let rest = same_attributes xs ys s t q r h k hq hr named.1 in
    (named.0, rest.0, rest.1)

-- ---- elements

-- an end tag comes next
abbrev IsEnd : List ℕ → Type 0
IsEnd q = (rest : List ℕ) × (q ≡ 60 ∷ 47 ∷ rest)

flat_tags : (m s inside q : List ℕ) → with_tags m s inside ++ q ≡ 60 ∷ (m ++ (s ++ (62 ∷ (inside ++ (60 ∷ 47 ∷ (m ++ (62 ∷ q)))))))
flat_tags m s inside q = simp append_assoc

flat_tag : (m s q : List ℕ) → one_tag m s ++ q ≡ 60 ∷ (m ++ (s ++ (47 ∷ 62 ∷ q)))
flat_tag m s q = simp append_assoc

-- two contents with one text, and what follows
abbrev SameContent : Content → Content → Type 0
SameContent c d = (s t q r : List ℕ) → SpellsContent s c → SpellsContent t d → IsEnd q → IsEnd r → s ++ q ≡ t ++ r → (c ≡ d) × (q ≡ r)

module _ (m n : List ℕ) (xs ys : List Attribute) (c d : Content) (same : SameContent c d) where
  -- the two elements, from their parts
  elements : m ≡ n → xs ≡ ys → c ≡ d → element m xs c ≡ element n ys d
  elements e f g = ap (λ k. element k xs c) e ∙ (ap (λ zs. element n zs c) f ∙ ap (λ x. element n ys x) g)

  by_tags : (s t q r a b i j : List ℕ) → IsName m → IsName n → SpellsAttributes a xs → SpellsAttributes b ys → SpellsContent i c → SpellsContent j d → HasTags s m a i → HasTags t n b j → s ++ q ≡ t ++ r
      → (element m xs c ≡ element n ys d) × (q ≡ r)
  by_tags s t q r a b i j im in' ha hb hc hd (inl h) (inl k) e =
      let flat = sym (ap (λ (l : List ℕ). l ++ q) h ∙ flat_tags m a i q) ∙ (e ∙ (ap (λ (l : List ℕ). l ++ r) k ∙ flat_tags n b j r)) in
      let start = same_start m n a b _ _ xs ys im in' ha hb (inl refl) (inl refl) flat in
      let inner = same i j (60 ∷ 47 ∷ (m ++ (62 ∷ q))) (60 ∷ 47 ∷ (n ++ (62 ∷ r))) hc hd (_, refl) (_, refl) (same_tail 62 62 _ _ start.2) in
      let end = same_name m n (62 ∷ q) (62 ∷ r) im.1 in'.1 (λ letter. let low = letter.0 in omega arith) (λ letter. let low = letter.0 in omega arith) (same_tail 47 47 _ _ (same_tail 60 60 _ _ inner.1)) in
      (elements start.0 start.1 inner.0, same_tail 62 62 q r end.1)
  by_tags s t q r a b i j im in' ha hb hc hd (inr h) (inr k) e =
      let flat = sym (ap (λ (l : List ℕ). l ++ q) h.1 ∙ flat_tag m a q) ∙ (e ∙ (ap (λ (l : List ℕ). l ++ r) k.1 ∙ flat_tag n b r)) in
      let start = same_start m n a b _ _ xs ys im in' ha hb (inr refl) (inr refl) flat in
      let inner = same i j (60 ∷ 47 ∷ []) (60 ∷ 47 ∷ []) hc hd (_, refl) (_, refl) (ap (λ (l : List ℕ). l ++ (60 ∷ 47 ∷ [])) (h.0 ∙ sym k.0)) in
      (elements start.0 start.1 inner.0, same_tail 62 62 q r (same_tail 47 47 _ _ start.2))
  by_tags s t q r a b i j im in' ha hb hc hd (inl h) (inr k) e =
      let flat = sym (ap (λ (l : List ℕ). l ++ q) h ∙ flat_tags m a i q) ∙ (e ∙ (ap (λ (l : List ℕ). l ++ r) k.1 ∙ flat_tag n b r)) in
      let start = same_start m n a b _ _ xs ys im in' ha hb (inl refl) (inr refl) flat in
      absurd (let same = same_head 62 47 _ _ start.2 in omega (arith, same))
  by_tags s t q r a b i j im in' ha hb hc hd (inr h) (inl k) e =
      let flat = sym (ap (λ (l : List ℕ). l ++ q) h.1 ∙ flat_tag m a q) ∙ (e ∙ (ap (λ (l : List ℕ). l ++ r) k ∙ flat_tags n b j r)) in
      let start = same_start m n a b _ _ xs ys im in' ha hb (inr refl) (inl refl) flat in
      absurd (let same = same_head 47 62 _ _ start.2 in omega (arith, same))

-- an element begins with `<` and a letter
record Begins (s : List ℕ) : Type 0 where
  letter : ℕ
  rest : List ℕ
  is : IsLetter letter
  text_is : s ≡ 60 ∷ letter ∷ rest

name_begins : (m after : List ℕ) → IsName m → Begins (60 ∷ (m ++ after))
name_begins [] after is = absurd (is.0 refl)
name_begins (b ∷ m) after is = record { letter = b; rest = m ++ after; is = is.1.0; text_is = refl }

tags_begin : (s m a i : List ℕ) → IsName m → HasTags s m a i → Begins s
tags_begin s m a i is (inl h) = subst Begins (sym h) (name_begins m _ is)
tags_begin s m a i is (inr h) = subst Begins (sym h.1) (name_begins m _ is)

tree_begins : (x : Tree) (s : List ℕ) → SpellsTree s x → Begins s
tree_begins (element m xs c) s h = tags_begin s m h.0 h.1 h.2 h.6

-- no element begins where an end tag does, nor where a line ends
no_end : (s q r : List ℕ) → Begins s → IsEnd q → s ++ r ≡ q → ⊥
no_end s q r b end e =
    let flat : 60 ∷ b.letter ∷ (b.rest ++ r) ≡ 60 ∷ 47 ∷ end.0 = sym (ap (λ (l : List ℕ). l ++ r) b.text_is) ∙ (e ∙ end.1) in
    let same = same_head b.letter 47 _ _ (same_tail 60 60 _ _ flat) in
    let low = b.is.0 in
    omega (arith, same)

no_line : (s r rest : List ℕ) → Begins s → s ++ r ≡ 10 ∷ rest → ⊥
no_line s r rest b e = let same = same_head 60 10 _ _ (sym (ap (λ (l : List ℕ). l ++ r) b.text_is) ∙ e) in omega (arith, same)

line_not_end : (q rest : List ℕ) → IsEnd q → q ≡ 10 ∷ rest → ⊥
line_not_end q rest end e = let same = same_head 60 10 _ _ (sym end.1 ∙ e) in omega (arith, same)

-- a text that begins with a part
front : (s a b q : List ℕ) → s ≡ a ++ b → s ++ q ≡ a ++ (b ++ q)
front s a b q e = ap (λ (l : List ℕ). l ++ q) e ∙ append_assoc a b q

mutual
  pub same_tree : (x y : Tree) (s t q r : List ℕ) → SpellsTree s x → SpellsTree t y → s ++ q ≡ t ++ r → (x ≡ y) × (q ≡ r)
  same_tree (element m xs c) (element n ys d) s t q r h k e = by_tags m n xs ys c d (same_content c d) s t q r h.0 k.0 h.1 k.1 h.2 k.2 h.3 k.3 h.5 k.5 h.6 k.6 e

  same_content : (c d : Content) → SameContent c d
  same_content nothing nothing s t q r h k hq hr e = (refl, sym (ap (λ (l : List ℕ). l ++ q) h) ∙ (e ∙ ap (λ (l : List ℕ). l ++ r) k))
  same_content nothing (line_end d) s t q r h k hq hr e = absurd (line_not_end q _ hq (sym (ap (λ (l : List ℕ). l ++ q) h) ∙ (e ∙ ap (λ (l : List ℕ). l ++ r) k.1)))
  same_content nothing (child y d) s t q r h k hq hr e = absurd (no_end k.0 q (k.1 ++ r) (tree_begins y k.0 k.3) hq (sym (sym (ap (λ (l : List ℕ). l ++ q) h) ∙ (e ∙ front t k.0 k.1 r k.2))))
  same_content (line_end c) nothing s t q r h k hq hr e = absurd (line_not_end r _ hr (sym (ap (λ (l : List ℕ). l ++ r) k) ∙ (sym e ∙ ap (λ (l : List ℕ). l ++ q) h.1)))
  same_content (line_end c) (line_end d) s t q r h k hq hr e =
      let flat = same_tail 10 10 (h.0 ++ q) (k.0 ++ r) (sym (ap (λ (l : List ℕ). l ++ q) h.1) ∙ (e ∙ ap (λ (l : List ℕ). l ++ r) k.1)) in
      let rest = same_content c d h.0 k.0 q r h.2 k.2 hq hr flat in
      (ap line_end rest.0, rest.1)
  same_content (line_end c) (child y d) s t q r h k hq hr e =
      absurd (no_line k.0 (k.1 ++ r) _ (tree_begins y k.0 k.3) (sym (front t k.0 k.1 r k.2) ∙ (sym e ∙ ap (λ (l : List ℕ). l ++ q) h.1)))
  same_content (child x c) nothing s t q r h k hq hr e = absurd (no_end h.0 r (h.1 ++ q) (tree_begins x h.0 h.3) hr (sym (sym (ap (λ (l : List ℕ). l ++ r) k) ∙ (sym e ∙ front s h.0 h.1 q h.2))))
  same_content (child x c) (line_end d) s t q r h k hq hr e =
      absurd (no_line h.0 (h.1 ++ q) _ (tree_begins x h.0 h.3) (sym (front s h.0 h.1 q h.2) ∙ (e ∙ ap (λ (l : List ℕ). l ++ r) k.1)))
  same_content (child x c) (child y d) s t q r h k hq hr e =
      let first = same_tree x y h.0 k.0 (h.1 ++ q) (k.1 ++ r) h.3 k.3 (sym (front s h.0 h.1 q h.2) ∙ (e ∙ front t k.0 k.1 r k.2)) in
      let rest = same_content c d h.1 k.1 q r h.4 k.4 hq hr first.1 in
      (ap₂ (λ z zs. child z zs) first.0 rest.0, rest.1)

-- one text, one tree
pub one_tree : (text : List ℕ) (x y : Tree) → SpellsTree text x → SpellsTree text y → x ≡ y
one_tree text x y h k = (same_tree x y text text [] [] h k refl).0
