-- The value of an object in mode Meta tells the whole object.
use Rattle.std.proofs.Common.{◌≡◌, ℕ, ◌≤◌, ℤ, pos, unsigned_abs, FitsSigned, List, [], ◌∷◌, ◌++◌, Bool, true, false, cond, map, inl, inr, ◌⊎◌, Option, Some, None, MatchOption, codes, bytes_eq, refl, sym, ap, ap₂, ◌∙◌, subst, arith, append_assoc}
use Rattle.std.specs.Bool.{⊤}
use Rattle.std.specs.Fmt.{signed_decimal}
use Rattle.std.specs.Int.{w64}
use Rattle.std.specs.List.{AllByRecursion}
use Rattle.std.specs.Ordering.{int_eq}
use Rattle.std.proofs.lemmas.Bool.{true≢false}
use Rattle.std.proofs.lemmas.Bool.Decides.{Decides-int_eq}
use Rattle.std.proofs.lemmas.Int.{ints}
use Rattle.std.proofs.lemmas.List.Elements.{recursion_from_All}
use Rattle.std.proofs.lemmas.Slice.Eq.{bytes_eq-Decides}
use Rattle.json.specs.Json.{Json, item, member, no_items, no_members, number, string}
use Rattle.osm_model.specs.CanonicalDegrees.{degrees}
use Rattle.osm_model.specs.CanonicalLine.{moment}
use Rattle.osm_model.specs.Degrees.{IsDegrees}
use Rattle.osm_model.specs.Elements.{Element, kind_of}
use Rattle.osm_model.specs.Limits.{BodyInRange, IsElement, MetaInRange}
use Rattle.osm_model.specs.Moments.{IsMoment, Moment}
use Rattle.osm_model.specs.Places.{Place}
use Rattle.osm_model.specs.declared.body.Body.{Body}
use Rattle.osm_model.specs.declared.body.Body.TheVariants as bodies
use Rattle.osm_model.specs.declared.kind.Kind.{Kind}
use Rattle.osm_model.specs.declared.kind.Kind.TheVariants as kinds
use Rattle.osm_model.specs.declared.member.Member.{Member}
use Rattle.osm_model.specs.declared.meta.Meta.{Meta}
use Rattle.osm_model.specs.declared.out_mode.OutMode.TheVariants as modes
use Rattle.osm_model.specs.declared.reference.Ref.{Ref}
use Rattle.osm_model.specs.declared.tag.Tag.{Tag}
use Rattle.osm_model.proofs.shared.ObjectParts.{same_element, same_meta}
use Rattle.osm_model.proofs.shared.OneDecimal.{one_value}
use Rattle.osm_model.proofs.shared.ReadBack.{reads_back}
use Rattle.opl_codec.specs.Values.{SpellsNumber, SpellsStamp}
use Rattle.opl_codec.proofs.shared.CanonicalValues.{number_spells, stamp_spells}
use Rattle.opl_codec.proofs.shared.ValueLaws.{one_number, one_stamp}
use Rattle.osm_form_laws.specs.JsonValues.{Named, array_of, body_members, id_value, items_of, kept_members, known_moment, known_number, known_user, member_value, members_of, object_members, object_of, object_value, tag_member, tags_members}
use Rattle.osm_forms.specs.Words.{kind_word}

-- ---- values made alike

same_number : (a b : List ℕ) → number a ≡ number b → a ≡ b
same_number a b e = cc

same_string : (a b : List ℕ) → string a ≡ string b → a ≡ b
same_string a b e = cc

same_items : (xs ys : List Json) → items_of xs ≡ items_of ys → xs ≡ ys
same_items [] [] e = refl
same_items [] (y ∷ ys) e = absurd (let f : no_items ≡ item y (items_of ys) = e in cc)
same_items (x ∷ xs) [] e = absurd (let f : item x (items_of xs) ≡ no_items = e in cc)
same_items (x ∷ xs) (y ∷ ys) e =
    let f : item x (items_of xs) ≡ item y (items_of ys) = e in
    let first : x ≡ y = cc in
    let rest : items_of xs ≡ items_of ys = cc in
    ap₂ (λ z zs. z ∷ zs) first (same_items xs ys rest)

same_array : (xs ys : List Json) → array_of xs ≡ array_of ys → xs ≡ ys
same_array xs ys e = let f : items_of xs ≡ items_of ys = cc in same_items xs ys f

same_named : (m n : Named) → m.0 ≡ n.0 → m.1 ≡ n.1 → m ≡ n
same_named m n name value = ap₂ (λ (k : List ℕ) (j : Json). (k, j)) name value

same_members : (xs ys : List Named) → members_of xs ≡ members_of ys → xs ≡ ys
same_members [] [] e = refl
same_members [] (y ∷ ys) e = absurd (let f : no_members ≡ member y.0 y.1 (members_of ys) = e in cc)
same_members (x ∷ xs) [] e = absurd (let f : member x.0 x.1 (members_of xs) ≡ no_members = e in cc)
same_members (x ∷ xs) (y ∷ ys) e =
    let f : member x.0 x.1 (members_of xs) ≡ member y.0 y.1 (members_of ys) = e in
    let name : x.0 ≡ y.0 = cc in
    let value : x.1 ≡ y.1 = cc in
    let rest : members_of xs ≡ members_of ys = cc in
    ap₂ (λ z zs. z ∷ zs) (same_named x y name value) (same_members xs ys rest)

same_object : (xs ys : List Named) → object_of xs ≡ object_of ys → xs ≡ ys
same_object xs ys e = let f : members_of xs ≡ members_of ys = cc in same_members xs ys f

-- the values of the first members of two lists
first_value : (k l : List ℕ) (i j : Json) (xs ys : List Named) → (k, i) ∷ xs ≡ (l, j) ∷ ys → i ≡ j
first_value k l i j xs ys e = let f : (k, i) ≡ (l, j) = cc in ap (λ (m : Named). m.1) f

first_name : (k l : List ℕ) (i j : Json) (xs ys : List Named) → (k, i) ∷ xs ≡ (l, j) ∷ ys → k ≡ l
first_name k l i j xs ys e = let f : (k, i) ≡ (l, j) = cc in ap (λ (m : Named). m.0) f

other_members : (x y : Named) (xs ys : List Named) → x ∷ xs ≡ y ∷ ys → xs ≡ ys
other_members x y xs ys e = cc

-- ---- numbers, moments and degrees

pub same_signed : (y z : ℤ) → FitsSigned w64 y → FitsSigned w64 z → signed_decimal y ≡ signed_decimal z → y ≡ z
same_signed y z fy fz e = one_number (signed_decimal z) y z (subst (λ text. SpellsNumber text y) e (number_spells y fy)) (number_spells z fz)

pub same_degrees : (y z : ℤ) → unsigned_abs y ≤ 1800000000 → unsigned_abs z ≤ 1800000000 → degrees y ≡ degrees z → y ≡ z
same_degrees y z wy wz e = one_value (degrees z) y z (subst (λ text. IsDegrees text y) e (reads_back y wy)) (reads_back z wz)

pub same_moment : (m n : Moment) → IsMoment m → IsMoment n → moment (Some m) ≡ moment (Some n) → Some m ≡ Some n
same_moment m n im in' e = one_stamp (moment (Some n)) (Some m) (Some n) (subst (λ text. SpellsStamp text (Some m)) e (stamp_spells (Some m) im)) (stamp_spells (Some n) in')

-- ---- members that may be missing

-- nothing, or one member of this name
abbrev IsOptional : List ℕ → List Named → Type 0
IsOptional k xs = (xs ≡ []) ⊎ ((j : Json) × (xs ≡ (k, j) ∷ []))

-- the first member, if there is one, has another name
abbrev BeginsOther : List ℕ → List Named → Type 0
BeginsOther k [] = ⊤
BeginsOther k (x ∷ xs) = bytes_eq x.0 k ≡ false

same_bytes : (k l : List ℕ) → k ≡ l → bytes_eq k l ≡ true
same_bytes k l e = (bytes_eq-Decides k l).1 e

clash : (k : List ℕ) (j : Json) (r s : List Named) → BeginsOther k r → r ≡ (k, j) ∷ s → ⊥
clash k j [] s other e = absurd (let f : ◌≡◌ {A = List Named} [] ((k, j) ∷ s) = e in cc)
clash k j (x ∷ r) s other e = true≢false (sym (same_bytes x.0 k (first_name x.0 k x.1 j r s e)) ∙ other)

peel : (k : List ℕ) (xs ys r s : List Named) → IsOptional k xs → IsOptional k ys → BeginsOther k r → BeginsOther k s → xs ++ r ≡ ys ++ s → (xs ≡ ys) × (r ≡ s)
peel k xs ys r s (inl e) (inl f) hr hs same = (e ∙ sym f, sym (ap (λ l. l ++ r) e) ∙ (same ∙ ap (λ l. l ++ s) f))
peel k xs ys r s (inl e) (inr (j, f)) hr hs same = absurd (clash k j r s hr (sym (ap (λ l. l ++ r) e) ∙ (same ∙ ap (λ l. l ++ s) f)))
peel k xs ys r s (inr (i, e)) (inl f) hr hs same = absurd (clash k i s r hs (sym (ap (λ l. l ++ s) f) ∙ (sym same ∙ ap (λ l. l ++ r) e)))
peel k xs ys r s (inr (i, e)) (inr (j, f)) hr hs same =
    let both : (k, i) ∷ r ≡ (k, j) ∷ s = sym (ap (λ l. l ++ r) e) ∙ (same ∙ ap (λ l. l ++ s) f) in
    (e ∙ (ap (λ v. (k, v) ∷ []) (first_value k k i j r s both) ∙ sym f), other_members (k, i) (k, j) r s both)

begins_after : (k l : List ℕ) (xs r : List Named) → IsOptional l xs → bytes_eq l k ≡ false → BeginsOther k r → BeginsOther k (xs ++ r)
begins_after k l xs r (inl e) other rest = subst (λ front. BeginsOther k (front ++ r)) (sym e) rest
begins_after k l xs r (inr (j, e)) other rest = subst (λ front. BeginsOther k (front ++ r)) (sym e) other

number_optional : (name : List ℕ) (z : ℤ) → IsOptional name (known_number name z)
number_optional name z =
    elim (int_eq z (pos 0)) as (λ b. IsOptional name (cond b [] ((name, number (signed_decimal z)) ∷ []))) [ true ↦ inl refl | false ↦ inr (number (signed_decimal z), refl) ]

moment_optional : (stamp : Option Moment) → IsOptional (codes "timestamp") (known_moment stamp)
moment_optional None = inl refl
moment_optional (Some m) = inr (string (moment (Some m)), refl)

user_optional : (user : List ℕ) → IsOptional (codes "user") (known_user user)
user_optional [] = inl refl
user_optional (b ∷ bytes) = inr (string (b ∷ bytes), refl)

-- ---- what the optional members tell

none_or_one : (m : Named) → ◌≡◌ {A = List Named} [] (m ∷ []) → ⊥
none_or_one m e = absurd (let f : ◌≡◌ {A = List Named} [] (m ∷ []) = e in cc)

known_number_at : (name : List ℕ) (y z : ℤ) (b c : Bool) → int_eq y (pos 0) ≡ b → int_eq z (pos 0) ≡ c → FitsSigned w64 y → FitsSigned w64 z
    → cond {A = List Named} b [] ((name, number (signed_decimal y)) ∷ []) ≡ cond {A = List Named} c [] ((name, number (signed_decimal z)) ∷ []) → y ≡ z
known_number_at name y z true true ey ez fy fz e = (Decides-int_eq y (pos 0)).0 ey ∙ sym ((Decides-int_eq z (pos 0)).0 ez)
known_number_at name y z true false ey ez fy fz e = absurd (none_or_one (name, number (signed_decimal z)) e)
known_number_at name y z false true ey ez fy fz e = absurd (none_or_one (name, number (signed_decimal y)) (sym e))
known_number_at name y z false false ey ez fy fz e = same_signed y z fy fz (same_number _ _ (first_value name name _ _ [] [] e))

same_known_number : (name : List ℕ) (y z : ℤ) → FitsSigned w64 y → FitsSigned w64 z → known_number name y ≡ known_number name z → y ≡ z
same_known_number name y z fy fz e = known_number_at name y z (int_eq y (pos 0)) (int_eq z (pos 0)) refl refl fy fz e

same_known_moment : (s t : Option Moment) → MatchOption s ⊤ (λ m. IsMoment m) → MatchOption t ⊤ (λ m. IsMoment m) → known_moment s ≡ known_moment t → s ≡ t
same_known_moment None None is it e = refl
same_known_moment None (Some n) is it e = absurd (none_or_one _ e)
same_known_moment (Some m) None is it e = absurd (none_or_one _ (sym e))
same_known_moment (Some m) (Some n) is it e = same_moment m n is it (same_string _ _ (first_value (codes "timestamp") (codes "timestamp") _ _ [] [] e))

same_known_user : (s t : List ℕ) → known_user s ≡ known_user t → s ≡ t
same_known_user [] [] e = refl
same_known_user [] (b ∷ t) e = absurd (none_or_one _ e)
same_known_user (a ∷ s) [] e = absurd (none_or_one _ (sym e))
same_known_user (a ∷ s) (b ∷ t) e = same_string _ _ (first_value (codes "user") (codes "user") _ _ [] [] e)

-- ---- tags, nodes and members

same_tag : (s t : Tag) → tag_member s ≡ tag_member t → s ≡ t
same_tag s t e =
    let made : List ℕ → List ℕ → Tag = λ key value. record { key = key; value = value } in
    ap₂ made (ap (λ (m : Named). m.0) e) (same_string s.value t.value (ap (λ (m : Named). m.1) e))

same_tag_members : (s t : List Tag) → map tag_member s ≡ map tag_member t → s ≡ t
same_tag_members [] [] e = refl
same_tag_members [] (y ∷ t) e = absurd (let f : ◌≡◌ {A = List Named} [] (tag_member y ∷ map tag_member t) = e in cc)
same_tag_members (x ∷ s) [] e = absurd (let f : ◌≡◌ {A = List Named} (tag_member x ∷ map tag_member s) [] = e in cc)
same_tag_members (x ∷ s) (y ∷ t) e =
    let first : tag_member x ≡ tag_member y = cc in
    ap₂ (λ z zs. z ∷ zs) (same_tag x y first) (same_tag_members s t (other_members (tag_member x) (tag_member y) (map tag_member s) (map tag_member t) e))

same_tags : (s t : List Tag) → tags_members s ≡ tags_members t → s ≡ t
same_tags [] [] e = refl
same_tags [] (y ∷ t) e = absurd (none_or_one _ e)
same_tags (x ∷ s) [] e = absurd (none_or_one _ (sym e))
same_tags (x ∷ s) (y ∷ t) e =
    same_tag_members (x ∷ s) (y ∷ t) (same_object (map tag_member (x ∷ s)) (map tag_member (y ∷ t)) (first_value (codes "tags") (codes "tags") _ _ [] [] e))

same_ids : (s t : List ℤ) → AllByRecursion (λ id. FitsSigned w64 id) s → AllByRecursion (λ id. FitsSigned w64 id) t → map id_value s ≡ map id_value t → s ≡ t
same_ids [] [] fs ft e = refl
same_ids [] (y ∷ t) fs ft e = absurd (let f : ◌≡◌ {A = List Json} [] (id_value y ∷ map id_value t) = e in cc)
same_ids (x ∷ s) [] fs ft e = absurd (let f : ◌≡◌ {A = List Json} (id_value x ∷ map id_value s) [] = e in cc)
same_ids (x ∷ s) (y ∷ t) fs ft e =
    let both : id_value x ∷ map id_value s ≡ id_value y ∷ map id_value t = e in
    let first : number (signed_decimal x) ≡ number (signed_decimal y) = cc in
    let rest : map id_value s ≡ map id_value t = cc in
    ap₂ (λ z zs. z ∷ zs) (same_signed x y fs.0 ft.0 (same_number _ _ first)) (same_ids s t fs.1 ft.1 rest)

pub same_kind : (k l : Kind) → kind_word k ≡ kind_word l → k ≡ l
same_kind kinds.Node kinds.Node e = refl
same_kind kinds.Node kinds.Way e = absurd (true≢false (sym (same_bytes (codes "node") (codes "way") e)))
same_kind kinds.Node kinds.Rel e = absurd (true≢false (sym (same_bytes (codes "node") (codes "relation") e)))
same_kind kinds.Way kinds.Node e = absurd (true≢false (sym (same_bytes (codes "way") (codes "node") e)))
same_kind kinds.Way kinds.Way e = refl
same_kind kinds.Way kinds.Rel e = absurd (true≢false (sym (same_bytes (codes "way") (codes "relation") e)))
same_kind kinds.Rel kinds.Node e = absurd (true≢false (sym (same_bytes (codes "relation") (codes "node") e)))
same_kind kinds.Rel kinds.Way e = absurd (true≢false (sym (same_bytes (codes "relation") (codes "way") e)))
same_kind kinds.Rel kinds.Rel e = refl

same_member : (m n : Member) → FitsSigned w64 m.target.id → FitsSigned w64 n.target.id → member_value m ≡ member_value n → m ≡ n
same_member m n fm fn e =
    let s = m.target in
    let t = n.target in
    let more : Member → List Named = λ (x : Member). (codes "ref", number (signed_decimal x.target.id)) ∷ (codes "role", string x.role) ∷ [] in
    let all = same_object ((codes "type", string (kind_word s.kind)) ∷ more m) ((codes "type", string (kind_word t.kind)) ∷ more n) e in
    let kind = same_kind s.kind t.kind (same_string _ _ (first_value (codes "type") (codes "type") _ _ (more m) (more n) all)) in
    let after = other_members (codes "type", string (kind_word s.kind)) (codes "type", string (kind_word t.kind)) (more m) (more n) all in
    let id = same_signed s.id t.id fm fn (same_number _ _ (first_value (codes "ref") (codes "ref") _ _ ((codes "role", string m.role) ∷ []) ((codes "role", string n.role) ∷ []) after)) in
    let last = other_members (codes "ref", number (signed_decimal s.id)) (codes "ref", number (signed_decimal t.id)) ((codes "role", string m.role) ∷ []) ((codes "role", string n.role) ∷ []) after in
    let role = same_string m.role n.role (first_value (codes "role") (codes "role") _ _ [] [] last) in
    let named : Kind → ℤ → Ref = λ kind id. record { kind = kind; id = id } in
    let made : Ref → List ℕ → Member = λ target role. record { target = target; role = role } in
    ap₂ made (ap₂ named kind id) role

same_all_members : (s t : List Member) → AllByRecursion (λ m. FitsSigned w64 m.target.id) s → AllByRecursion (λ m. FitsSigned w64 m.target.id) t → map member_value s ≡ map member_value t → s ≡ t
same_all_members [] [] fs ft e = refl
same_all_members [] (y ∷ t) fs ft e = absurd (let f : ◌≡◌ {A = List Json} [] (member_value y ∷ map member_value t) = e in cc)
same_all_members (x ∷ s) [] fs ft e = absurd (let f : ◌≡◌ {A = List Json} (member_value x ∷ map member_value s) [] = e in cc)
same_all_members (x ∷ s) (y ∷ t) fs ft e =
    let both : member_value x ∷ map member_value s ≡ member_value y ∷ map member_value t = e in
    let first : member_value x ≡ member_value y = cc in
    let rest : map member_value s ≡ map member_value t = cc in
    ap₂ (λ z zs. z ∷ zs) (same_member x y fs.0 ft.0 first) (same_all_members s t fs.1 ft.1 rest)

-- ---- bodies

pub same_place : (p q : Place) → p.lon ≡ q.lon → p.lat ≡ q.lat → p ≡ q
same_place p q lon lat = let made : ℤ → ℤ → Place = λ lon lat. record { lon = lon; lat = lat } in ap₂ made lon lat

-- bodies of one kind, and what stands after them
same_body : (a b : Body) (r s : List Named) → kind_of a ≡ kind_of b → BodyInRange a → BodyInRange b → body_members a ++ r ≡ body_members b ++ s → (a ≡ b) × (r ≡ s)
same_body (bodies.Node p) (bodies.Node q) r s kind ha hb e =
    let lat = first_value (codes "lat") (codes "lat") (number (degrees p.lat)) (number (degrees q.lat)) ((codes "lon", number (degrees p.lon)) ∷ r) ((codes "lon", number (degrees q.lon)) ∷ s) e in
    let after = other_members (codes "lat", number (degrees p.lat)) (codes "lat", number (degrees q.lat)) ((codes "lon", number (degrees p.lon)) ∷ r) ((codes "lon", number (degrees q.lon)) ∷ s) e in
    let lon = first_value (codes "lon") (codes "lon") (number (degrees p.lon)) (number (degrees q.lon)) r s after in (
      ap bodies.Node
          (same_place p q (same_degrees p.lon q.lon ha.lon hb.lon (same_number _ _ lon)) (same_degrees p.lat q.lat (omega (arith, ha.lat)) (omega (arith, hb.lat)) (same_number _ _ lat))),
      other_members (codes "lon", number (degrees p.lon)) (codes "lon", number (degrees q.lon)) r s after,
    )
same_body (bodies.Way m) (bodies.Way n) r s kind ha hb e =
    let first = first_value (codes "nodes") (codes "nodes") (array_of (map id_value m)) (array_of (map id_value n)) r s e in (
      ap bodies.Way
          (same_ids m n (recursion_from_All (λ id. FitsSigned w64 id) m ha) (recursion_from_All (λ id. FitsSigned w64 id) n hb) (same_array (map id_value m) (map id_value n) first)),
      other_members (codes "nodes", array_of (map id_value m)) (codes "nodes", array_of (map id_value n)) r s e,
    )
same_body (bodies.Rel m) (bodies.Rel n) r s kind ha hb e =
    let first = first_value (codes "members") (codes "members") (array_of (map member_value m)) (array_of (map member_value n)) r s e in (
      ap bodies.Rel
          (same_all_members m n (recursion_from_All (λ (x : Member). FitsSigned w64 x.target.id) m ha) (recursion_from_All (λ (x : Member). FitsSigned w64 x.target.id) n hb)
          (same_array (map member_value m) (map member_value n) first)),
      other_members (codes "members", array_of (map member_value m)) (codes "members", array_of (map member_value n)) r s e,
    )
same_body (bodies.Node x) (bodies.Way y) r s kind ha hb e = absurd (let f : kinds.Node ≡ kinds.Way = kind in cc)
same_body (bodies.Node x) (bodies.Rel y) r s kind ha hb e = absurd (let f : kinds.Node ≡ kinds.Rel = kind in cc)
same_body (bodies.Way x) (bodies.Node y) r s kind ha hb e = absurd (let f : kinds.Way ≡ kinds.Node = kind in cc)
same_body (bodies.Way x) (bodies.Rel y) r s kind ha hb e = absurd (let f : kinds.Way ≡ kinds.Rel = kind in cc)
same_body (bodies.Rel x) (bodies.Node y) r s kind ha hb e = absurd (let f : kinds.Rel ≡ kinds.Node = kind in cc)
same_body (bodies.Rel x) (bodies.Way y) r s kind ha hb e = absurd (let f : kinds.Rel ≡ kinds.Way = kind in cc)

-- a body begins with none of these names
body_begins : (k : List ℕ) (body : Body) (r : List Named) → bytes_eq (codes "lat") k ≡ false → bytes_eq (codes "nodes") k ≡ false → bytes_eq (codes "members") k ≡ false → BeginsOther k (body_members body ++ r)
body_begins k (bodies.Node p) r lat nodes members = lat
body_begins k (bodies.Way ids) r lat nodes members = nodes
body_begins k (bodies.Rel ms) r lat nodes members = members

-- ---- the last change

abbrev from_id : Element → List Named
from_id o = (codes "id", number (signed_decimal o.id)) ∷ kept_members o modes.Meta

abbrev from_uid : Element → List Named
from_uid o = known_number (codes "uid") o.meta.uid ++ (body_members o.body ++ tags_members o.tags)

abbrev from_user : Element → List Named
from_user o = known_user o.meta.user ++ from_uid o

abbrev from_changeset : Element → List Named
from_changeset o = known_number (codes "changeset") o.meta.changeset ++ from_user o

abbrev from_version : Element → List Named
from_version o = known_number (codes "version") (pos o.meta.version) ++ from_changeset o

abbrev from_moment : Element → List Named
from_moment o = known_moment o.meta.stamp ++ from_version o

in_order : (o : Element) → kept_members o modes.Meta ≡ from_moment o
in_order o = simp append_assoc

user_begins : (o : Element) → BeginsOther (codes "user") (from_uid o)
user_begins o = begins_after (codes "user") (codes "uid") _ _ (number_optional (codes "uid") o.meta.uid) refl (body_begins (codes "user") o.body (tags_members o.tags) refl refl refl)

-- a name that none of the members from the user on has
begins_from_user : (k : List ℕ) (o : Element) → bytes_eq (codes "user") k ≡ false → bytes_eq (codes "uid") k ≡ false → bytes_eq (codes "lat") k ≡ false → bytes_eq (codes "nodes") k ≡ false
    → bytes_eq (codes "members") k ≡ false → BeginsOther k (from_user o)
begins_from_user k o user uid lat nodes members =
    begins_after k (codes "user") (known_user o.meta.user) (from_uid o) (user_optional o.meta.user) user
    (begins_after k (codes "uid") (known_number (codes "uid") o.meta.uid) _ (number_optional (codes "uid") o.meta.uid) uid (body_begins k o.body (tags_members o.tags) lat nodes members))

begins_from_changeset : (k : List ℕ) (o : Element) → bytes_eq (codes "changeset") k ≡ false → BeginsOther k (from_user o) → BeginsOther k (from_changeset o)
begins_from_changeset k o changeset rest = begins_after k (codes "changeset") (known_number (codes "changeset") o.meta.changeset) (from_user o) (number_optional (codes "changeset") o.meta.changeset) changeset rest

begins_from_version : (k : List ℕ) (o : Element) → bytes_eq (codes "version") k ≡ false → BeginsOther k (from_changeset o) → BeginsOther k (from_version o)
begins_from_version k o version rest = begins_after k (codes "version") (known_number (codes "version") (pos o.meta.version)) (from_changeset o) (number_optional (codes "version") (pos o.meta.version)) version rest

pub version_fits : (m : Meta) → MetaInRange m → FitsSigned w64 (pos m.version)
version_fits m is = let small = is.version in omega (arith, ints)

pub same_version : (m n : ℕ) → pos m ≡ pos n → m ≡ n
same_version m n e = cc

version_other : (o : Element) → BeginsOther (codes "version") (from_changeset o)
version_other o = begins_from_changeset (codes "version") o refl (begins_from_user (codes "version") o refl refl refl refl refl)

moment_other : (o : Element) → BeginsOther (codes "timestamp") (from_version o)
moment_other o = begins_from_version (codes "timestamp") o refl (begins_from_changeset (codes "timestamp") o refl (begins_from_user (codes "timestamp") o refl refl refl refl refl))

changeset_other : (o : Element) → BeginsOther (codes "changeset") (from_user o)
changeset_other o = begins_from_user (codes "changeset") o refl refl refl refl refl

uid_other : (o : Element) → BeginsOther (codes "uid") (body_members o.body ++ tags_members o.tags)
uid_other o = body_begins (codes "uid") o.body (tags_members o.tags) refl refl refl

pub one_value_object : (a b : Element) → IsElement a → IsElement b → object_value a modes.Meta ≡ object_value b modes.Meta → a ≡ b
unfolding object_value
one_value_object a b ha hb same =
    let all = same_object (object_members a modes.Meta) (object_members b modes.Meta) same in
    let kind = same_kind (kind_of a.body) (kind_of b.body) (same_string _ _ (first_value (codes "type") (codes "type") _ _ (from_id a) (from_id b) all)) in
    let named = other_members (codes "type", string (kind_word (kind_of a.body))) (codes "type", string (kind_word (kind_of b.body))) (from_id a) (from_id b) all in
    let id = same_signed a.id b.id ha.in_range hb.in_range (same_number _ _ (first_value (codes "id") (codes "id") _ _ (kept_members a modes.Meta) (kept_members b modes.Meta) named)) in
    let kept = other_members (codes "id", number (signed_decimal a.id)) (codes "id", number (signed_decimal b.id)) (kept_members a modes.Meta) (kept_members b modes.Meta) named in
    let stamp = peel (codes "timestamp") (known_moment a.meta.stamp) (known_moment b.meta.stamp) (from_version a) (from_version b) (moment_optional a.meta.stamp) (moment_optional b.meta.stamp) (moment_other a) (moment_other b) (sym (in_order a) ∙ (kept ∙ in_order b)) in
    let version = peel (codes "version") (known_number (codes "version") (pos a.meta.version)) (known_number (codes "version") (pos b.meta.version)) (from_changeset a) (from_changeset b) (number_optional _ (pos a.meta.version)) (number_optional _ (pos b.meta.version)) (version_other a) (version_other b) stamp.1 in
    let changeset = peel (codes "changeset") (known_number (codes "changeset") a.meta.changeset) (known_number (codes "changeset") b.meta.changeset) (from_user a) (from_user b) (number_optional _ a.meta.changeset) (number_optional _ b.meta.changeset) (changeset_other a) (changeset_other b) version.1 in
    let user = peel (codes "user") (known_user a.meta.user) (known_user b.meta.user) (from_uid a) (from_uid b) (user_optional a.meta.user) (user_optional b.meta.user) (user_begins a) (user_begins b) changeset.1 in
    let uid = peel (codes "uid") (known_number (codes "uid") a.meta.uid) (known_number (codes "uid") b.meta.uid) _ _ (number_optional _ a.meta.uid) (number_optional _ b.meta.uid) (uid_other a) (uid_other b) user.1 in
    let body = same_body a.body b.body (tags_members a.tags) (tags_members b.tags) kind ha.body_in_range hb.body_in_range uid.1 in
    let ma = ha.meta_in_range in
    let mb = hb.meta_in_range in
    let meta = same_meta a.meta b.meta
    (same_version _ _ (same_known_number (codes "version") (pos a.meta.version) (pos b.meta.version) (version_fits a.meta ma) (version_fits b.meta mb) version.0))
    (same_known_number (codes "changeset") a.meta.changeset b.meta.changeset ma.changeset mb.changeset changeset.0)
    (same_known_moment a.meta.stamp b.meta.stamp ma.stamp mb.stamp stamp.0)
    (same_known_number (codes "uid") a.meta.uid b.meta.uid ma.uid mb.uid uid.0)
    (same_known_user a.meta.user b.meta.user user.0) in
    same_element a b id meta (same_tags a.tags b.tags body.1) body.0
