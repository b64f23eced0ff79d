-- The XML text of an object, and that of a document, spell their trees.
use Rattle.std.proofs.Common.{◌≡◌, ℕ, ◌≤◌, ℤ, pos, unsigned_abs, FitsSigned, List, [], ◌∷◌, ◌++◌, map, flat_map, true, false, cond, inl, inr, Option, Some, None, MatchOption, codes, refl, sym, ap, ◌∙◌, subst, arith, append_assoc, append-nil}
use Rattle.std.specs.Bool.{⊤}
use Rattle.std.specs.Fmt.{signed_decimal}
use Rattle.std.specs.Int.{w64}
use Rattle.std.specs.List.{All, AllByRecursion}
use Rattle.std.specs.Ordering.{int_eq}
use Rattle.std.specs.Str.{IsUtf8}
use Rattle.std.proofs.lemmas.Int.{ints}
use Rattle.std.proofs.lemmas.List.Elements.{recursion_from_All}
use Rattle.osm_model.specs.Bytes.{double_quote, line_feed, space}
use Rattle.osm_model.specs.CanonicalDegrees.{degrees}
use Rattle.osm_model.specs.CanonicalLine.{moment}
use Rattle.osm_model.specs.Elements.{Element, kind_of, members_of}
use Rattle.osm_model.specs.Limits.{BodyInRange, IsElement, MetaInRange}
use Rattle.osm_model.specs.Moments.{IsMoment, Moment}
use Rattle.osm_model.specs.declared.body.Body.{Body}
use Rattle.osm_model.specs.declared.body.Body.TheVariants as bodies
use Rattle.osm_model.specs.declared.kind.Kind.{Kind}
use Rattle.osm_model.specs.declared.kind.Kind.TheVariants as kinds
use Rattle.osm_model.specs.declared.member.Member.{Member}
use Rattle.osm_model.specs.declared.meta.Meta.{Meta}
use Rattle.osm_model.specs.declared.out_mode.OutMode.{OutMode}
use Rattle.osm_model.specs.declared.out_mode.OutMode.TheVariants as modes
use Rattle.osm_model.specs.declared.tag.Tag.{Tag}
use Rattle.osm_model.proofs.shared.Each.{all_weaker}
use Rattle.opl_codec.proofs.shared.CanonicalValues.{IsNumeric, coordinate_numeric, number_numeric}
use Rattle.osm_forms.specs.Documents.{document_in, xml_header}
use Rattle.osm_forms.specs.Forms.{form_text}
use Rattle.osm_forms.specs.Words.{kind_word}
use Rattle.osm_form_laws.specs.XmlDocuments.{Attribute, HasDistinctNames, IsName, SpellsAttribute, SpellsAttributes, SpellsContent, SpellsTree, SpellsValue, SpellsXml, Tree, element, nothing, one_tag, with_tags}
use Rattle.osm_forms.specs.XmlText.{quote, xml_attributes, xml_author, xml_change, xml_children, xml_content, xml_end, xml_head, xml_member, xml_meta, xml_moment, xml_node, xml_number, xml_of, xml_ref, xml_tag, xml_tags, xml_text, xml_user}
use Rattle.osm_form_laws.specs.XmlTrees.{attribute, body_trees, children, document_tree, held_characters, kept_attributes, kept_trees, known_moment, known_number, known_user, lines, member_tree, meta_attributes, node_tree, object_tree, place_attributes, tag_tree}
use Rattle.osm_forms.specs.declared.form.Form.TheVariants as forms
use Rattle.osm_form_laws.proofs.Stamps.{IsStampByte, moment_bytes}
use Rattle.osm_form_laws.proofs.XmlNames.{differ, name_of, object_names_differ, plain_of}
use Rattle.osm_form_laws.proofs.XmlValues.{IsPlain, plain_spelled, text_spelled}

-- ---- values

numeric_plain : (byte : ℕ) → IsNumeric byte → IsPlain byte
numeric_plain byte is = let low = is.0 in let high = is.1 in (omega arith, omega arith, λ e. omega arith)

number_value : (z : ℤ) → FitsSigned w64 z → SpellsValue (signed_decimal z) (signed_decimal z)
number_value z fits = plain_spelled (signed_decimal z) (all_weaker IsNumeric IsPlain (signed_decimal z) numeric_plain (number_numeric z fits))

degrees_value : (z : ℤ) → unsigned_abs z ≤ 1800000000 → SpellsValue (degrees z) (degrees z)
degrees_value z within = plain_spelled (degrees z) (all_weaker IsNumeric IsPlain (degrees z) numeric_plain (coordinate_numeric z within))

stamp_plain : (byte : ℕ) → IsStampByte byte → IsPlain byte
stamp_plain byte is = (is.0, omega (arith, is.1), is.2)

moment_value : (m : Moment) → IsMoment m → SpellsValue (moment (Some m)) (moment (Some m))
moment_value m is = plain_spelled (moment (Some m)) (all_weaker IsStampByte IsPlain (moment (Some m)) stamp_plain (moment_bytes m is))

kind_value : (kind : Kind) → SpellsValue (kind_word kind) (kind_word kind)
kind_value kinds.Node = plain_spelled (codes "node") (plain_of (codes "node") refl)
kind_value kinds.Way = plain_spelled (codes "way") (plain_of (codes "way") refl)
kind_value kinds.Rel = plain_spelled (codes "relation") (plain_of (codes "relation") refl)

kind_name : (kind : Kind) → IsName (kind_word kind)
kind_name kinds.Node = name_of 110 (codes "ode") refl
kind_name kinds.Way = name_of 119 (codes "ay") refl
kind_name kinds.Rel = name_of 114 (codes "elation") refl

-- ---- attributes

abbrev attribute_text : List ℕ → List ℕ → List ℕ
attribute_text name value = space ∷ (name ++ (codes "=\"" ++ (value ++ double_quote ∷ [])))

attribute_spelled : (name text value : List ℕ) → IsName name → SpellsValue text value → SpellsAttribute (attribute_text name text) (attribute name value)
attribute_spelled name text value named spelled = record { value = text; named = named; spelled = spelled; text_is = refl }

one_attribute : (text : List ℕ) (a : Attribute) → SpellsAttribute text a → SpellsAttributes text (a ∷ [])
one_attribute text a h = (text, [], sym (append-nil text), h, refl)

both_attributes : (s t : List ℕ) (xs ys : List Attribute) → SpellsAttributes s xs → SpellsAttributes t ys → SpellsAttributes (s ++ t) (xs ++ ys)
both_attributes s t [] ys h k = subst (λ (front : List ℕ). SpellsAttributes (front ++ t) ys) (sym h) k
both_attributes s t (a ∷ xs) ys h k = (h.0, h.1 ++ t, ap (λ (l : List ℕ). l ++ t) h.2 ∙ append_assoc h.0 h.1 t, h.3, both_attributes h.1 t xs ys h.4 k)

labelled : (label name value : List ℕ) → label ≡ space ∷ (name ++ codes "=\"") → label ++ (value ++ quote) ≡ attribute_text name value
labelled label name value e = ap (λ (l : List ℕ). l ++ (value ++ quote)) e ∙ ap (λ (l : List ℕ). space ∷ l) (append_assoc name (codes "=\"") (value ++ quote))

labelled_attribute : (label name text value : List ℕ) → label ≡ space ∷ (name ++ codes "=\"") → IsName name → SpellsValue text value → SpellsAttributes (label ++ (text ++ quote)) (attribute name value ∷ [])
labelled_attribute label name text value e named spelled =
    subst (λ (t : List ℕ). SpellsAttributes t (attribute name value ∷ [])) (sym (labelled label name text e)) (one_attribute (attribute_text name text) (attribute name value) (attribute_spelled name text value named spelled))

number_attribute : (label name : List ℕ) (z : ℤ) → label ≡ space ∷ (name ++ codes "=\"") → IsName name → FitsSigned w64 z → SpellsAttributes (xml_number label z) (known_number name z)
number_attribute label name z e named fits =
    elim (int_eq z (pos 0)) as (λ b. SpellsAttributes (cond b [] (label ++ (signed_decimal z ++ quote))) (cond b [] (attribute name (signed_decimal z) ∷ []))) [
      | true ↦ refl
      | false ↦ labelled_attribute label name (signed_decimal z) (signed_decimal z) e named (number_value z fits)
    ]

moment_attribute : (stamp : Option Moment) → MatchOption stamp ⊤ (λ m. IsMoment m) → SpellsAttributes (xml_moment stamp) (known_moment stamp)
moment_attribute None is = refl
moment_attribute (Some m) is = labelled_attribute (codes " timestamp=\"") (codes "timestamp") (moment (Some m)) (moment (Some m)) refl (name_of 116 (codes "imestamp") refl) (moment_value m is)

user_attribute : (user : List ℕ) → IsUtf8 user → SpellsAttributes (xml_user user) (known_user user)
user_attribute [] utf8 = refl
user_attribute (b ∷ bytes) utf8 =
    labelled_attribute (codes " user=\"") (codes "user") (xml_text (b ∷ bytes)) (held_characters (b ∷ bytes)) refl (name_of 117 (codes "ser") refl) (text_spelled (b ∷ bytes) utf8)

version_fits : (m : Meta) → MetaInRange m → FitsSigned w64 (pos m.version)
version_fits m is = let small = is.version in omega (arith, ints)

meta_spelled : (m : Meta) → MetaInRange m → IsUtf8 m.user → SpellsAttributes (xml_meta m) (meta_attributes m)
meta_spelled m is utf8 =
    both_attributes (xml_change m) (xml_author m) (known_number (codes "version") (pos m.version) ++ (known_moment m.stamp ++ known_number (codes "changeset") m.changeset)) (known_number (codes "uid") m.uid ++ known_user m.user)
    (both_attributes (xml_number (codes " version=\"") (pos m.version)) (xml_moment m.stamp ++ xml_number (codes " changeset=\"") m.changeset) (known_number (codes "version") (pos m.version)) (known_moment m.stamp ++ known_number (codes "changeset") m.changeset)
    (number_attribute (codes " version=\"") (codes "version") (pos m.version) refl (name_of 118 (codes "ersion") refl) (version_fits m is))
    (both_attributes (xml_moment m.stamp) (xml_number (codes " changeset=\"") m.changeset) (known_moment m.stamp) (known_number (codes "changeset") m.changeset) (moment_attribute m.stamp is.stamp)
    (number_attribute (codes " changeset=\"") (codes "changeset") m.changeset refl (name_of 99 (codes "hangeset") refl) is.changeset)))
    (both_attributes (xml_number (codes " uid=\"") m.uid) (xml_user m.user) (known_number (codes "uid") m.uid) (known_user m.user) (number_attribute (codes " uid=\"") (codes "uid") m.uid refl (name_of 117 (codes "id") refl) is.uid)
    (user_attribute m.user utf8))

place_spelled : (body : Body) → BodyInRange body → SpellsAttributes (xml_attributes body) (place_attributes body)
place_spelled (bodies.Node p) is =
    both_attributes (codes " lat=\"" ++ (degrees p.lat ++ quote)) (codes " lon=\"" ++ (degrees p.lon ++ quote)) (attribute (codes "lat") (degrees p.lat) ∷ []) (attribute (codes "lon") (degrees p.lon) ∷ [])
    (labelled_attribute (codes " lat=\"") (codes "lat") (degrees p.lat) (degrees p.lat) refl (name_of 108 (codes "at") refl) (degrees_value p.lat (omega (arith, is.lat))))
    (labelled_attribute (codes " lon=\"") (codes "lon") (degrees p.lon) (degrees p.lon) refl (name_of 108 (codes "on") refl) (degrees_value p.lon is.lon))
place_spelled (bodies.Way nodes) is = refl
place_spelled (bodies.Rel members) is = refl

head_spelled : (o : Element) (mode : OutMode) → IsElement o → SpellsAttributes (xml_head o mode) (kept_attributes o mode)
head_spelled o modes.Ids is = refl
head_spelled o modes.Tags is = refl
head_spelled o modes.Skel is = place_spelled o.body is.body_in_range
head_spelled o modes.Body is = place_spelled o.body is.body_in_range
head_spelled o modes.Meta is =
    both_attributes (xml_meta o.meta) (xml_attributes o.body) (meta_attributes o.meta) (place_attributes o.body) (meta_spelled o.meta is.meta_in_range is.utf8.user) (place_spelled o.body is.body_in_range)

-- ---- elements that hold nothing

-- an element in one tag
alone : (text name spelled : List ℕ) (attributes : List Attribute) → IsName name → SpellsAttributes spelled attributes → HasDistinctNames attributes → text ≡ one_tag name spelled → SpellsTree text (element name attributes nothing)
alone text name spelled attributes named are differ is = (spelled, [], named, are, differ, refl, inr (refl, is))

tag_pieces : (key value : List ℕ) → (codes "<tag k=\"" ++ key) ++ (codes "\" v=\"" ++ (value ++ codes "\"/>")) ≡ one_tag (codes "tag") (attribute_text (codes "k") key ++ attribute_text (codes "v") value)
tag_pieces key value = simp append_assoc

tag_spelled : (tag : Tag) → IsUtf8 tag.key × IsUtf8 tag.value → SpellsTree (xml_tag tag) (tag_tree tag)
unfolding xml_tag
tag_spelled tag utf8 =
    let k = attribute_text (codes "k") (xml_text tag.key) in
    let v = attribute_text (codes "v") (xml_text tag.value) in
    let a = attribute (codes "k") (held_characters tag.key) in
    let b = attribute (codes "v") (held_characters tag.value) in
    alone _ (codes "tag") (k ++ v) (a ∷ b ∷ []) (name_of 116 (codes "ag") refl)
    (both_attributes k v (a ∷ []) (b ∷ []) (one_attribute k a (attribute_spelled (codes "k") (xml_text tag.key) (held_characters tag.key) (name_of 107 [] refl) (text_spelled tag.key utf8.0)))
    (one_attribute v b (attribute_spelled (codes "v") (xml_text tag.value) (held_characters tag.value) (name_of 118 [] refl) (text_spelled tag.value utf8.1))))
    ((differ (codes "k") (codes "v") refl, tt), (tt, tt))
    (tag_pieces (xml_text tag.key) (xml_text tag.value))

node_pieces : (id : List ℕ) → codes "<nd ref=\"" ++ (id ++ codes "\"/>") ≡ one_tag (codes "nd") (attribute_text (codes "ref") id)
node_pieces id = ap (λ (l : List ℕ). codes "<nd ref=\"" ++ l) (sym (append_assoc id (double_quote ∷ []) (codes "/>")))

node_spelled : (id : ℤ) → FitsSigned w64 id → SpellsTree (xml_node id) (node_tree id)
unfolding xml_node
node_spelled id fits =
    let r = attribute_text (codes "ref") (signed_decimal id) in
    let a = attribute (codes "ref") (signed_decimal id) in
    alone _ (codes "nd") r (a ∷ []) (name_of 110 (codes "d") refl) (one_attribute r a (attribute_spelled (codes "ref") (signed_decimal id) (signed_decimal id) (name_of 114 (codes "ef") refl) (number_value id fits))) (tt, tt)
    (node_pieces (signed_decimal id))

member_pieces : (kind id role : List ℕ) → (codes "<member type=\"" ++ (kind ++ (codes "\" ref=\"" ++ id))) ++ (codes "\" role=\"" ++ (role ++ codes "\"/>"))
    ≡ one_tag (codes "member") (attribute_text (codes "type") kind ++ (attribute_text (codes "ref") id ++ attribute_text (codes "role") role))
member_pieces kind id role = simp append_assoc

member_spelled : (m : Member) → FitsSigned w64 m.target.id → IsUtf8 m.role → SpellsTree (xml_member m) (member_tree m)
unfolding xml_member
member_spelled m fits utf8 =
    let t = attribute_text (codes "type") (kind_word m.target.kind) in
    let r = attribute_text (codes "ref") (signed_decimal m.target.id) in
    let l = attribute_text (codes "role") (xml_text m.role) in
    let a = attribute (codes "type") (kind_word m.target.kind) in
    let b = attribute (codes "ref") (signed_decimal m.target.id) in
    let d = attribute (codes "role") (held_characters m.role) in
    alone _ (codes "member") (t ++ (r ++ l)) (a ∷ b ∷ d ∷ []) (name_of 109 (codes "ember") refl)
    (both_attributes t (r ++ l) (a ∷ []) (b ∷ d ∷ []) (one_attribute t a (attribute_spelled (codes "type") _ _ (name_of 116 (codes "ype") refl) (kind_value m.target.kind)))
    (both_attributes r l (b ∷ []) (d ∷ []) (one_attribute r b (attribute_spelled (codes "ref") _ _ (name_of 114 (codes "ef") refl) (number_value m.target.id fits)))
    (one_attribute l d (attribute_spelled (codes "role") _ _ (name_of 114 (codes "ole") refl) (text_spelled m.role utf8)))))
    ((differ (codes "type") (codes "ref") refl, (differ (codes "type") (codes "role") refl, tt)), ((differ (codes "ref") (codes "role") refl, tt), (tt, tt)))
    (member_pieces (kind_word m.target.kind) (signed_decimal m.target.id) (xml_text m.role))

-- ---- what objects hold

all_spelled : {X : Type 0} (text : X → List ℕ) (tree : X → Tree) (Is : X → Type 0) → ((x : X) → Is x → SpellsTree (text x) (tree x)) → (xs : List X) → AllByRecursion Is xs
    → SpellsContent (flat_map text xs) (children (map tree xs))
all_spelled text tree Is one [] all = refl
all_spelled text tree Is one (x ∷ xs) all = (text x, flat_map text xs, refl, one x all.0, all_spelled text tree Is one xs all.1)

both_contents : (s t : List ℕ) (xs ys : List Tree) → SpellsContent s (children xs) → SpellsContent t (children ys) → SpellsContent (s ++ t) (children (xs ++ ys))
both_contents s t [] ys h k = subst (λ (front : List ℕ). SpellsContent (front ++ t) (children ys)) (sym h) k
both_contents s t (x ∷ xs) ys h k = (h.0, h.1 ++ t, ap (λ (l : List ℕ). l ++ t) h.2 ∙ append_assoc h.0 h.1 t, h.3, both_contents h.1 t xs ys h.4 k)

tags_spelled : (tags : List Tag) → All (λ tag. IsUtf8 tag.key × IsUtf8 tag.value) tags → SpellsContent (xml_tags tags) (children (map tag_tree tags))
tags_spelled tags all =
    all_spelled (λ tag. xml_tag tag) tag_tree (λ (tag : Tag). IsUtf8 tag.key × IsUtf8 tag.value) tag_spelled tags (recursion_from_All (λ (tag : Tag). IsUtf8 tag.key × IsUtf8 tag.value) tags all)

both_hold : {X : Type 0} (P Q : X → Type 0) (xs : List X) → AllByRecursion P xs → AllByRecursion Q xs → AllByRecursion (λ x. P x × Q x) xs
both_hold P Q [] h k = tt
both_hold P Q (x ∷ xs) h k = ((h.0, k.0), both_hold P Q xs h.1 k.1)

body_spelled : (body : Body) → BodyInRange body → All (λ (m : Member). IsUtf8 m.role) (members_of body) → SpellsContent (xml_children body) (children (body_trees body))
body_spelled (bodies.Node p) is utf8 = refl
body_spelled (bodies.Way nodes) is utf8 =
    all_spelled (λ id. xml_node id) node_tree (λ id. FitsSigned w64 id) node_spelled nodes (recursion_from_All (λ id. FitsSigned w64 id) nodes is)
body_spelled (bodies.Rel members) is utf8 =
    all_spelled (λ member. xml_member member) member_tree (λ (m : Member). FitsSigned w64 m.target.id × IsUtf8 m.role) (λ m h. member_spelled m h.0 h.1) members
    (both_hold (λ (m : Member). FitsSigned w64 m.target.id) (λ (m : Member). IsUtf8 m.role) members (recursion_from_All (λ (m : Member). FitsSigned w64 m.target.id) members is) (recursion_from_All (λ (m : Member). IsUtf8 m.role) members utf8))

content_spelled : (o : Element) (mode : OutMode) → IsElement o → SpellsContent (xml_content o mode) (children (kept_trees o mode))
content_spelled o modes.Ids is = refl
content_spelled o modes.Tags is = tags_spelled o.tags is.utf8.in_tags
content_spelled o modes.Skel is = body_spelled o.body is.body_in_range is.utf8.in_members
content_spelled o modes.Body is =
    both_contents (xml_children o.body) (xml_tags o.tags) (body_trees o.body) (map tag_tree o.tags) (body_spelled o.body is.body_in_range is.utf8.in_members) (tags_spelled o.tags is.utf8.in_tags)
content_spelled o modes.Meta is =
    both_contents (xml_children o.body) (xml_tags o.tags) (body_trees o.body) (map tag_tree o.tags) (body_spelled o.body is.body_in_range is.utf8.in_members) (tags_spelled o.tags is.utf8.in_tags)

-- ---- objects

object_pieces : (kind id head inside : List ℕ) → (60 ∷ (kind ++ id)) ++ (head ++ 62 ∷ []) ++ (inside ++ (codes "</" ++ (kind ++ codes ">"))) ≡ with_tags kind (id ++ head) inside
object_pieces kind id head inside = simp append_assoc

pub object_spelled : (o : Element) (mode : OutMode) → IsElement o → SpellsTree (xml_of o mode) (object_tree o mode)
unfolding xml_of xml_ref xml_end
object_spelled o mode is =
    let kind = kind_word (kind_of o.body) in
    let id = codes " id=\"" ++ (signed_decimal o.id ++ quote) in
    let a = attribute (codes "id") (signed_decimal o.id) in (
      id ++ xml_head o mode,
      xml_content o mode,
      kind_name (kind_of o.body),
      both_attributes id (xml_head o mode) (a ∷ []) (kept_attributes o mode)
          (labelled_attribute (codes " id=\"") (codes "id") (signed_decimal o.id) (signed_decimal o.id) refl (name_of 105 (codes "d") refl) (number_value o.id is.in_range)) (head_spelled o mode is),
      object_names_differ o mode (signed_decimal o.id),
      content_spelled o mode is,
      inl (object_pieces kind id (xml_head o mode) (xml_content o mode)),
    )

-- ---- documents

lines_spelled : (objects : List Element) (mode : OutMode) → AllByRecursion IsElement objects → SpellsContent (flat_map (λ o. xml_of o mode ++ line_feed ∷ []) objects) (lines (map (λ o. object_tree o mode) objects))
lines_spelled [] mode all = refl
lines_spelled (o ∷ objects) mode all =
    let rest = flat_map (λ o. xml_of o mode ++ line_feed ∷ []) objects in
    (xml_of o mode, line_feed ∷ rest, append_assoc (xml_of o mode) (line_feed ∷ []) rest, object_spelled o mode all.0, (rest, refl, lines_spelled objects mode all.1))

root_attributes : SpellsAttributes (codes " version=\"0.6\" generator=\"osm_mirror\"") (attribute (codes "version") (codes "0.6") ∷ attribute (codes "generator") (codes "osm_mirror") ∷ [])
root_attributes =
    both_attributes (attribute_text (codes "version") (codes "0.6")) (attribute_text (codes "generator") (codes "osm_mirror")) (attribute (codes "version") (codes "0.6") ∷ []) (attribute (codes "generator") (codes "osm_mirror") ∷ [])
    (one_attribute (attribute_text (codes "version") (codes "0.6")) _ (attribute_spelled (codes "version") (codes "0.6") (codes "0.6") (name_of 118 (codes "ersion") refl) (plain_spelled (codes "0.6") (plain_of (codes "0.6") refl))))
    (one_attribute (attribute_text (codes "generator") (codes "osm_mirror")) _
    (attribute_spelled (codes "generator") (codes "osm_mirror") (codes "osm_mirror") (name_of 103 (codes "enerator") refl) (plain_spelled (codes "osm_mirror") (plain_of (codes "osm_mirror") refl))))

root_spelled : (inside : List ℕ) (objects : List Element) (mode : OutMode) → SpellsContent inside (lines (map (λ o. object_tree o mode) objects))
    → SpellsTree (with_tags (codes "osm") (codes " version=\"0.6\" generator=\"osm_mirror\"") (line_feed ∷ inside)) (document_tree objects mode)
root_spelled inside objects mode h = (
  codes " version=\"0.6\" generator=\"osm_mirror\"",
  line_feed ∷ inside,
  name_of 111 (codes "sm") refl,
  root_attributes,
  ((differ (codes "version") (codes "generator") refl, tt), (tt, tt)),
  (inside, refl, h),
  inl refl,
)

pub xml_document_spells : (objects : List Element) (mode : OutMode) → All IsElement objects
    → SpellsXml (document_in forms.Xml (flat_map (λ o. form_text forms.Xml o mode) objects)) (document_tree objects mode)
unfolding document_in
xml_document_spells objects mode each =
    let inside = flat_map (λ o. xml_of o mode ++ line_feed ∷ []) objects in
    record {
      root_text = with_tags (codes "osm") (codes " version=\"0.6\" generator=\"osm_mirror\"") (line_feed ∷ inside);
      spelled = root_spelled inside objects mode (lines_spelled objects mode (recursion_from_All IsElement objects each));
      text_is = ap (λ (l : List ℕ). xml_header ++ l) (sym (append_assoc inside (codes "</osm>") (line_feed ∷ [])));
    }
