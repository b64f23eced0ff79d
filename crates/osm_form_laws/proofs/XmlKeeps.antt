-- The tree of an object in mode Meta tells the whole object, but for the characters that XML can't hold.
use Rattle.std.proofs.Common.{◌≡◌, ℕ, ℤ, pos, FitsSigned, List, [], ◌∷◌, ◌++◌, Bool, true, false, cond, map, inl, inr, ◌⊎◌, Option, Some, None, MatchOption, codes, bytes_eq, refl, sym, ap, ap₂, ◌∙◌, subst, arith, append_assoc}
use Rattle.std.specs.Bool.{⊤}
use Rattle.std.specs.Fmt.{signed_decimal}
use Rattle.std.specs.Int.{w64}
use Rattle.std.specs.List.{AllByRecursion}
use Rattle.std.specs.Ordering.{int_eq}
use Rattle.std.proofs.lemmas.Bool.{true≢false}
use Rattle.std.proofs.lemmas.Bool.Decides.{Decides-int_eq}
use Rattle.std.proofs.lemmas.List.Elements.{recursion_from_All}
use Rattle.std.proofs.lemmas.Slice.Eq.{bytes_eq-Decides}
use Rattle.osm_model.specs.CanonicalLine.{moment}
use Rattle.osm_model.specs.Elements.{Element, kind_of}
use Rattle.osm_model.specs.Limits.{BodyInRange, IsElement}
use Rattle.osm_model.specs.Moments.{IsMoment, Moment}
use Rattle.osm_model.specs.declared.body.Body.{Body}
use Rattle.osm_model.specs.declared.body.Body.TheVariants as bodies
use Rattle.osm_model.specs.declared.kind.Kind.{Kind}
use Rattle.osm_model.specs.declared.kind.Kind.TheVariants as kinds
use Rattle.osm_model.specs.declared.member.Member.{Member}
use Rattle.osm_model.specs.declared.out_mode.OutMode.TheVariants as modes
use Rattle.osm_model.specs.declared.reference.Ref.{Ref}
use Rattle.osm_model.specs.declared.tag.Tag.{Tag}
use Rattle.osm_model.proofs.shared.ObjectParts.{same_element, same_meta}
use Rattle.osm_form_laws.specs.XmlDocuments.{Attribute, Content, SpellsTree, Tree, child, element, nothing}
use Rattle.osm_forms.specs.XmlText.{xml_of}
use Rattle.osm_form_laws.specs.XmlTrees.{attribute, body_trees, children, held_body, held_characters, held_element, held_member, held_tag, held_text, kept_attributes, kept_trees, known_moment, known_number, known_user, member_tree, node_tree, object_tree, place_attributes, tag_tree}
use Rattle.osm_form_laws.proofs.JsonKeeps.{same_degrees, same_kind, same_moment, same_place, same_signed, same_version, version_fits}
use Rattle.osm_form_laws.proofs.XmlSpelled.{object_spelled}
use Rattle.osm_form_laws.proofs.XmlUnique.{one_tree}
use lib.Utf8.{encodes}

-- ---- lists

same_first : {X : Type 0} (x y : X) (xs ys : List X) → x ∷ xs ≡ y ∷ ys → x ≡ y
same_first x y xs ys e = cc

same_rest : {X : Type 0} (x y : X) (xs ys : List X) → x ∷ xs ≡ y ∷ ys → xs ≡ ys
same_rest x y xs ys e = cc

none_or_more : {X : Type 0} (x : X) (xs : List X) → ◌≡◌ {A = List X} [] (x ∷ xs) → ⊥
none_or_more {X} x xs e = absurd (let f : ◌≡◌ {A = List X} [] (x ∷ xs) = e in cc)

-- ---- attributes

first_value : (k l v w : List ℕ) (xs ys : List Attribute) → attribute k v ∷ xs ≡ attribute l w ∷ ys → v ≡ w
first_value k l v w xs ys e = ap (λ (a : Attribute). a.value) (same_first (attribute k v) (attribute l w) xs ys e)

-- nothing, or one attribute of this name
abbrev IsOptional : List ℕ → List Attribute → Type 0
IsOptional k xs = (xs ≡ []) ⊎ ((v : List ℕ) × (xs ≡ attribute k v ∷ []))

-- the first attribute, if there is one, has another name
abbrev BeginsOther : List ℕ → List Attribute → Type 0
BeginsOther k [] = ⊤
BeginsOther k (a ∷ xs) = bytes_eq a.name k ≡ false

clash : (k v : List ℕ) (r s : List Attribute) → BeginsOther k r → r ≡ attribute k v ∷ s → ⊥
clash k v [] s other e = none_or_more (attribute k v) s e
clash k v (a ∷ r) s other e = true≢false (sym ((bytes_eq-Decides a.name k).1 (ap (λ (x : Attribute). x.name) (same_first a (attribute k v) r s e))) ∙ other)

peel : (k : List ℕ) (xs ys r s : List Attribute) → IsOptional k xs → IsOptional k ys → BeginsOther k r → BeginsOther k s → xs ++ r ≡ ys ++ s → (xs ≡ ys) × (r ≡ s)
peel k xs ys r s (inl e) (inl f) hr hs same = (e ∙ sym f, sym (ap (λ l. l ++ r) e) ∙ (same ∙ ap (λ l. l ++ s) f))
peel k xs ys r s (inl e) (inr (w, f)) hr hs same = absurd (clash k w r s hr (sym (ap (λ l. l ++ r) e) ∙ (same ∙ ap (λ l. l ++ s) f)))
peel k xs ys r s (inr (v, e)) (inl f) hr hs same = absurd (clash k v s r hs (sym (ap (λ l. l ++ s) f) ∙ (sym same ∙ ap (λ l. l ++ r) e)))
peel k xs ys r s (inr (v, e)) (inr (w, f)) hr hs same =
    let both : attribute k v ∷ r ≡ attribute k w ∷ s = sym (ap (λ l. l ++ r) e) ∙ (same ∙ ap (λ l. l ++ s) f) in
    (e ∙ (ap (λ z. attribute k z ∷ []) (first_value k k v w r s both) ∙ sym f), same_rest (attribute k v) (attribute k w) r s both)

begins_after : (k l : List ℕ) (xs r : List Attribute) → IsOptional l xs → bytes_eq l k ≡ false → BeginsOther k r → BeginsOther k (xs ++ r)
begins_after k l xs r (inl e) other rest = subst (λ front. BeginsOther k (front ++ r)) (sym e) rest
begins_after k l xs r (inr (v, e)) other rest = subst (λ front. BeginsOther k (front ++ r)) (sym e) other

number_optional : (name : List ℕ) (z : ℤ) → IsOptional name (known_number name z)
number_optional name z =
    elim (int_eq z (pos 0)) as (λ b. IsOptional name (cond b [] (attribute name (signed_decimal z) ∷ []))) [ true ↦ inl refl | false ↦ inr (signed_decimal z, refl) ]

moment_optional : (stamp : Option Moment) → IsOptional (codes "timestamp") (known_moment stamp)
moment_optional None = inl refl
moment_optional (Some m) = inr (moment (Some m), refl)

user_optional : (user : List ℕ) → IsOptional (codes "user") (known_user user)
user_optional [] = inl refl
user_optional (b ∷ bytes) = inr (held_characters (b ∷ bytes), refl)

known_number_at : (name : List ℕ) (y z : ℤ) (b c : Bool) → int_eq y (pos 0) ≡ b → int_eq z (pos 0) ≡ c → FitsSigned w64 y → FitsSigned w64 z
    → cond {A = List Attribute} b [] (attribute name (signed_decimal y) ∷ []) ≡ cond {A = List Attribute} c [] (attribute name (signed_decimal z) ∷ []) → y ≡ z
known_number_at name y z true true ey ez fy fz e = (Decides-int_eq y (pos 0)).0 ey ∙ sym ((Decides-int_eq z (pos 0)).0 ez)
known_number_at name y z true false ey ez fy fz e = absurd (none_or_more _ [] e)
known_number_at name y z false true ey ez fy fz e = absurd (none_or_more _ [] (sym e))
known_number_at name y z false false ey ez fy fz e = same_signed y z fy fz (first_value name name _ _ [] [] e)

same_known_number : (name : List ℕ) (y z : ℤ) → FitsSigned w64 y → FitsSigned w64 z → known_number name y ≡ known_number name z → y ≡ z
same_known_number name y z fy fz e = known_number_at name y z (int_eq y (pos 0)) (int_eq z (pos 0)) refl refl fy fz e

same_known_moment : (s t : Option Moment) → MatchOption s ⊤ (λ m. IsMoment m) → MatchOption t ⊤ (λ m. IsMoment m) → known_moment s ≡ known_moment t → s ≡ t
same_known_moment None None is it e = refl
same_known_moment None (Some n) is it e = absurd (none_or_more _ [] e)
same_known_moment (Some m) None is it e = absurd (none_or_more _ [] (sym e))
same_known_moment (Some m) (Some n) is it e = same_moment m n is it (first_value (codes "timestamp") (codes "timestamp") _ _ [] [] e)

same_held : (s t : List ℕ) → held_characters s ≡ held_characters t → held_text s ≡ held_text t
same_held s t e = ap (λ cs. encodes cs) e

same_known_user : (s t : List ℕ) → known_user s ≡ known_user t → held_text s ≡ held_text t
same_known_user [] [] e = refl
same_known_user [] (b ∷ t) e = absurd (none_or_more _ [] e)
same_known_user (a ∷ s) [] e = absurd (none_or_more _ [] (sym e))
same_known_user (a ∷ s) (b ∷ t) e = same_held (a ∷ s) (b ∷ t) (first_value (codes "user") (codes "user") _ _ [] [] e)

-- ---- trees

abbrev tree_name : Tree → List ℕ
tree_name (element name attributes content) = name

abbrev tree_attributes : Tree → List Attribute
tree_attributes (element name attributes content) = attributes

abbrev tree_content : Tree → Content
tree_content (element name attributes content) = content

same_children : (xs ys : List Tree) → children xs ≡ children ys → xs ≡ ys
same_children [] [] e = refl
same_children [] (y ∷ ys) e = absurd (let f : nothing ≡ child y (children ys) = e in cc)
same_children (x ∷ xs) [] e = absurd (let f : child x (children xs) ≡ nothing = e in cc)
same_children (x ∷ xs) (y ∷ ys) e =
    let f : child x (children xs) ≡ child y (children ys) = e in
    let first : x ≡ y = cc in
    let rest : children xs ≡ children ys = cc in
    ap₂ (λ z zs. z ∷ zs) first (same_children xs ys rest)

same_tag : (s t : Tag) → tag_tree s ≡ tag_tree t → held_tag s ≡ held_tag t
same_tag s t e =
    let attributes = ap tree_attributes e in
    let made : List ℕ → List ℕ → Tag = λ key value. record { key = key; value = value } in
    ap₂ made (same_held s.key t.key (first_value (codes "k") (codes "k") _ _ _ _ attributes))
    (same_held s.value t.value (first_value (codes "v") (codes "v") _ _ [] [] (same_rest _ _ _ _ attributes)))

same_tags : (s t : List Tag) → map tag_tree s ≡ map tag_tree t → map held_tag s ≡ map held_tag t
same_tags [] [] e = refl
same_tags [] (y ∷ t) e = absurd (none_or_more _ _ e)
same_tags (x ∷ s) [] e = absurd (none_or_more _ _ (sym e))
same_tags (x ∷ s) (y ∷ t) e = ap₂ (λ z zs. z ∷ zs) (same_tag x y (same_first _ _ _ _ e)) (same_tags s t (same_rest _ _ _ _ e))

-- no tag is an element of another name
no_tag : (x : Tree) (xs : List Tree) (tags : List Tag) → bytes_eq (codes "tag") (tree_name x) ≡ false → map tag_tree tags ≡ x ∷ xs → ⊥
no_tag x xs [] other e = none_or_more x xs e
no_tag x xs (tag ∷ tags) other e = true≢false (sym ((bytes_eq-Decides (codes "tag") (tree_name x)).1 (ap tree_name (same_first _ _ _ _ e))) ∙ other)

module _ {X Y : Type 0} (tree : X → Tree) (shown : X → Y) (Is : X → Type 0) (other : (x : X) → bytes_eq (codes "tag") (tree_name (tree x)) ≡ false)
    (one : (x y : X) → Is x → Is y → tree x ≡ tree y → shown x ≡ shown y) where
  -- the items before the tags, and the tags
  split : (xs ys : List X) (s t : List Tag) → AllByRecursion Is xs → AllByRecursion Is ys → map tree xs ++ map tag_tree s ≡ map tree ys ++ map tag_tree t → (map shown xs ≡ map shown ys) × (map tag_tree s ≡ map tag_tree t)
  split [] [] s t hx hy e = (refl, e)
  split [] (y ∷ ys) s t hx hy e = absurd (no_tag (tree y) _ s (other y) e)
  split (x ∷ xs) [] s t hx hy e = absurd (no_tag (tree x) _ t (other x) (sym e))
  split (x ∷ xs) (y ∷ ys) s t hx hy e =
      let rest = split xs ys s t hx.1 hy.1 (same_rest _ _ _ _ e) in
      (ap₂ (λ z zs. z ∷ zs) (one x y hx.0 hy.0 (same_first _ _ _ _ e)) rest.0, rest.1)

same_node : (y z : ℤ) → FitsSigned w64 y → FitsSigned w64 z → node_tree y ≡ node_tree z → y ≡ z
same_node y z fy fz e = same_signed y z fy fz (first_value (codes "ref") (codes "ref") _ _ [] [] (ap tree_attributes e))

same_member : (m n : Member) → FitsSigned w64 m.target.id → FitsSigned w64 n.target.id → member_tree m ≡ member_tree n → held_member m ≡ held_member n
same_member m n fm fn e =
    let all = ap tree_attributes e in
    let after = same_rest _ _ _ _ all in
    let kind = same_kind m.target.kind n.target.kind (first_value (codes "type") (codes "type") _ _ _ _ all) in
    let id = same_signed m.target.id n.target.id fm fn (first_value (codes "ref") (codes "ref") _ _ _ _ after) in
    let role = same_held m.role n.role (first_value (codes "role") (codes "role") _ _ [] [] (same_rest _ _ _ _ after)) in
    let named : Kind → ℤ → Ref = λ kind id. record { kind = kind; id = id } in
    let made : Ref → List ℕ → Member = λ target role. record { target = target; role = role } in
    ap₂ made (ap₂ named kind id) role

map_same : (xs : List ℤ) → map (λ x. x) xs ≡ xs
map_same [] = refl
map_same (x ∷ xs) = ap (λ rest. x ∷ rest) (map_same xs)

-- bodies of one kind, and the tags after what they hold
same_body : (a b : Body) (s t : List Tag) → kind_of a ≡ kind_of b → BodyInRange a → BodyInRange b → place_attributes a ≡ place_attributes b → body_trees a ++ map tag_tree s ≡ body_trees b ++ map tag_tree t
    → (held_body a ≡ held_body b) × (map tag_tree s ≡ map tag_tree t)
same_body (bodies.Node p) (bodies.Node q) s t kind ha hb place e =
    let lat = same_degrees p.lat q.lat (omega (arith, ha.lat)) (omega (arith, hb.lat)) (first_value (codes "lat") (codes "lat") _ _ _ _ place) in
    let lon = same_degrees p.lon q.lon ha.lon hb.lon (first_value (codes "lon") (codes "lon") _ _ [] [] (same_rest _ _ _ _ place)) in
    (ap bodies.Node (same_place p q lon lat), e)
same_body (bodies.Way m) (bodies.Way n) s t kind ha hb place e =
    let both = split node_tree (λ id. id) (λ id. FitsSigned w64 id) (λ id. refl) same_node m n s t (recursion_from_All (λ id. FitsSigned w64 id) m ha) (recursion_from_All (λ id. FitsSigned w64 id) n hb) e in
    (ap bodies.Way (sym (map_same m) ∙ (both.0 ∙ map_same n)), both.1)
same_body (bodies.Rel m) (bodies.Rel n) s t kind ha hb place e =
    let both = split member_tree held_member (λ (x : Member). FitsSigned w64 x.target.id) (λ x. refl) same_member m n s t (recursion_from_All (λ (x : Member). FitsSigned w64 x.target.id) m ha) (recursion_from_All (λ (x : Member). FitsSigned w64 x.target.id) n hb) e in
    (ap bodies.Rel both.0, both.1)
same_body (bodies.Node x) (bodies.Way y) s t kind ha hb place e = absurd (let f : kinds.Node ≡ kinds.Way = kind in cc)
same_body (bodies.Node x) (bodies.Rel y) s t kind ha hb place e = absurd (let f : kinds.Node ≡ kinds.Rel = kind in cc)
same_body (bodies.Way x) (bodies.Node y) s t kind ha hb place e = absurd (let f : kinds.Way ≡ kinds.Node = kind in cc)
same_body (bodies.Way x) (bodies.Rel y) s t kind ha hb place e = absurd (let f : kinds.Way ≡ kinds.Rel = kind in cc)
same_body (bodies.Rel x) (bodies.Node y) s t kind ha hb place e = absurd (let f : kinds.Rel ≡ kinds.Node = kind in cc)
same_body (bodies.Rel x) (bodies.Way y) s t kind ha hb place e = absurd (let f : kinds.Rel ≡ kinds.Way = kind in cc)

-- ---- objects

abbrev from_user : Element → List Attribute
from_user o = known_user o.meta.user ++ place_attributes o.body

abbrev from_uid : Element → List Attribute
from_uid o = known_number (codes "uid") o.meta.uid ++ from_user o

abbrev from_changeset : Element → List Attribute
from_changeset o = known_number (codes "changeset") o.meta.changeset ++ from_uid o

abbrev from_moment : Element → List Attribute
from_moment o = known_moment o.meta.stamp ++ from_changeset o

abbrev from_version : Element → List Attribute
from_version o = known_number (codes "version") (pos o.meta.version) ++ from_moment o

in_order : (o : Element) → kept_attributes o modes.Meta ≡ from_version o
in_order o = simp append_assoc

place_begins : (k : List ℕ) (body : Body) → bytes_eq (codes "lat") k ≡ false → BeginsOther k (place_attributes body)
place_begins k (bodies.Node p) lat = lat
place_begins k (bodies.Way nodes) lat = tt
place_begins k (bodies.Rel members) lat = tt

user_begins : (k : List ℕ) (o : Element) → bytes_eq (codes "user") k ≡ false → bytes_eq (codes "lat") k ≡ false → BeginsOther k (from_user o)
user_begins k o user lat = begins_after k (codes "user") (known_user o.meta.user) _ (user_optional o.meta.user) user (place_begins k o.body lat)

uid_begins : (k : List ℕ) (o : Element) → bytes_eq (codes "uid") k ≡ false → BeginsOther k (from_user o) → BeginsOther k (from_uid o)
uid_begins k o uid rest = begins_after k (codes "uid") (known_number (codes "uid") o.meta.uid) _ (number_optional (codes "uid") o.meta.uid) uid rest

changeset_begins : (k : List ℕ) (o : Element) → bytes_eq (codes "changeset") k ≡ false → BeginsOther k (from_uid o) → BeginsOther k (from_changeset o)
changeset_begins k o changeset rest = begins_after k (codes "changeset") (known_number (codes "changeset") o.meta.changeset) _ (number_optional (codes "changeset") o.meta.changeset) changeset rest

moment_begins : (k : List ℕ) (o : Element) → bytes_eq (codes "timestamp") k ≡ false → BeginsOther k (from_changeset o) → BeginsOther k (from_moment o)
moment_begins k o stamp rest = begins_after k (codes "timestamp") (known_moment o.meta.stamp) _ (moment_optional o.meta.stamp) stamp rest

after_version : (o : Element) → BeginsOther (codes "version") (from_moment o)
after_version o = moment_begins (codes "version") o refl (changeset_begins (codes "version") o refl (uid_begins (codes "version") o refl (user_begins (codes "version") o refl refl)))

after_moment : (o : Element) → BeginsOther (codes "timestamp") (from_changeset o)
after_moment o = changeset_begins (codes "timestamp") o refl (uid_begins (codes "timestamp") o refl (user_begins (codes "timestamp") o refl refl))

after_changeset : (o : Element) → BeginsOther (codes "changeset") (from_uid o)
after_changeset o = uid_begins (codes "changeset") o refl (user_begins (codes "changeset") o refl refl)

pub one_tree_object : (a b : Element) → IsElement a → IsElement b → object_tree a modes.Meta ≡ object_tree b modes.Meta → held_element a ≡ held_element b
one_tree_object a b ha hb same =
    let kind = same_kind (kind_of a.body) (kind_of b.body) (ap tree_name same) in
    let all = ap tree_attributes same in
    let id = same_signed a.id b.id ha.in_range hb.in_range (first_value (codes "id") (codes "id") _ _ (kept_attributes a modes.Meta) (kept_attributes b modes.Meta) all) in
    let kept = same_rest (attribute (codes "id") (signed_decimal a.id)) (attribute (codes "id") (signed_decimal b.id)) (kept_attributes a modes.Meta) (kept_attributes b modes.Meta) all in
    let version = peel (codes "version") (known_number (codes "version") (pos a.meta.version)) (known_number (codes "version") (pos b.meta.version)) (from_moment a) (from_moment b) (number_optional _ (pos a.meta.version)) (number_optional _ (pos b.meta.version)) (after_version a) (after_version b) (sym (in_order a) ∙ (kept ∙ in_order b)) in
    let stamp = peel (codes "timestamp") (known_moment a.meta.stamp) (known_moment b.meta.stamp) (from_changeset a) (from_changeset b) (moment_optional a.meta.stamp) (moment_optional b.meta.stamp) (after_moment a) (after_moment b) version.1 in
    let changeset = peel (codes "changeset") (known_number (codes "changeset") a.meta.changeset) (known_number (codes "changeset") b.meta.changeset) (from_uid a) (from_uid b) (number_optional _ a.meta.changeset) (number_optional _ b.meta.changeset) (after_changeset a) (after_changeset b) stamp.1 in
    let uid = peel (codes "uid") (known_number (codes "uid") a.meta.uid) (known_number (codes "uid") b.meta.uid) (from_user a) (from_user b) (number_optional _ a.meta.uid) (number_optional _ b.meta.uid) (user_begins (codes "uid") a refl refl) (user_begins (codes "uid") b refl refl) changeset.1 in
    let user = peel (codes "user") (known_user a.meta.user) (known_user b.meta.user) (place_attributes a.body) (place_attributes b.body) (user_optional a.meta.user) (user_optional b.meta.user) (place_begins (codes "user") a.body refl) (place_begins (codes "user") b.body refl) uid.1 in
    let body = same_body a.body b.body a.tags b.tags kind ha.body_in_range hb.body_in_range user.1 (same_children (kept_trees a modes.Meta) (kept_trees b modes.Meta) (ap tree_content same)) in
    let ma = ha.meta_in_range in
    let mb = hb.meta_in_range in
    let meta = same_meta (held_element a).meta (held_element b).meta
    (same_version a.meta.version b.meta.version (same_known_number (codes "version") (pos a.meta.version) (pos b.meta.version) (version_fits a.meta ma) (version_fits b.meta mb) version.0))
    (same_known_number (codes "changeset") a.meta.changeset b.meta.changeset ma.changeset mb.changeset changeset.0)
    (same_known_moment a.meta.stamp b.meta.stamp ma.stamp mb.stamp stamp.0)
    (same_known_number (codes "uid") a.meta.uid b.meta.uid ma.uid mb.uid uid.0)
    (same_known_user a.meta.user b.meta.user user.0) in
    same_element (held_element a) (held_element b) id meta (same_tags a.tags b.tags body.1) body.0

pub one_xml_object : (a b : Element) → IsElement a → IsElement b → xml_of a modes.Meta ≡ xml_of b modes.Meta → held_element a ≡ held_element b
one_xml_object a b ha hb same =
    one_tree_object a b ha hb
    (one_tree (xml_of b modes.Meta) (object_tree a modes.Meta) (object_tree b modes.Meta) (subst (λ text. SpellsTree text (object_tree a modes.Meta)) same (object_spelled a modes.Meta ha)) (object_spelled b modes.Meta hb))
