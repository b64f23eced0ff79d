-- What makes an object of its parts.
use Rattle.std.proofs.Common.{◌≡◌, ℕ, ◌≤◌, ℤ, Option, ◌^◌, List, length, map, sym, ◌∙◌, ap, subst, inl, inr, arith, FitsSigned}
use Rattle.std.specs.Int.{w64}
use Rattle.std.specs.Ordering.{eq_by_cmp, nat_cmp}
use Rattle.std.specs.Cmp.Lexicographic.{slice_cmp}
use Rattle.std.specs.List.{AllAdjacentBelow}
use Rattle.std.specs.List.Sorted.{IsPermutation, IsSortedByKey}
use Rattle.std.proofs.lemmas.Cmp.{nat_list_cmp_total, eq_by_cmp_equiv}
use Rattle.std.proofs.lemmas.List.Sorted.{IsPermutation-map, IsPermutation-sym, All-permutation, length_permutation}
use Rattle.std.proofs.lemmas.Map.Keys.{IsDistinct-IsPermutation, IsDistinct-from_sorted}
use Rattle.osm_model.specs.Moments.{Moment}
use Rattle.osm_model.specs.declared.tag.Tag.{Tag}
use Rattle.osm_model.specs.declared.meta.Meta.{Meta}
use Rattle.osm_model.specs.declared.body.Body.{Body}
use Rattle.osm_model.specs.Elements.{Element}
use Rattle.osm_model.specs.CanonicalLine.{canonical_line}
use Rattle.osm_model.specs.Limits.{IsElement, IsMadeOf, MetaInRange, BodyInRange, EachText, Fits, IsClean, AreUtf8, HasDistinctKeys, Refuses, IsShort, HasNoNul}
use Rattle.osm_model.specs.declared.fault.ModelFault.{ModelFault}
use Rattle.osm_model.specs.declared.fault.ModelFault.TheVariants.{EmptyNumber, NotDecimal, TooManyDecimals, OutOfRange, SouthAboveNorth, ObjectTwice, KeyTwice, LimitPassed, NulInText}
use Rattle.osm_model.proofs.shared.UniqueTags.{same_order}
use Rattle.osm_model.proofs.shared.RisingKeys.{Below, rising, rises_from_distinct}

pub each_text_sorted : (holds : List ℕ → Type 0) (meta : Meta) (tags sorted : List Tag) (body : Body) → IsPermutation tags sorted → EachText holds meta tags body → EachText holds meta sorted body
each_text_sorted holds meta tags sorted body p h = record {
  user = h.user;
  in_tags = All-permutation (λ (tag : Tag). holds tag.key × holds tag.value) tags sorted p h.in_tags;
  in_members = h.in_members;
}

pub fits_sorted : (meta : Meta) (tags sorted : List Tag) (body : Body) → IsPermutation tags sorted → Fits meta tags body → Fits meta sorted body
fits_sorted meta tags sorted body p h = record {
  short = each_text_sorted IsShort meta tags sorted body p h.short;
  few_tags = omega (arith, h.few_tags, length_permutation tags sorted p);
  few_nodes = h.few_nodes;
  few_members = h.few_members;
}

-- tags whose neighbours rise make an object, within the limits
pub element : (id : ℤ) (meta : Meta) (tags sorted : List Tag) (body : Body) → FitsSigned w64 id → MetaInRange meta → BodyInRange body → IsPermutation tags sorted → AreUtf8 meta sorted body → Fits meta tags body → IsClean meta tags body
    → AllAdjacentBelow (Below (λ (tag : Tag). tag.key) (slice_cmp nat_cmp)) sorted (length sorted)
    → length (canonical_line (record { id = id; meta = meta; tags = sorted; body = body })) ≤ 2 ^ 24
    → IsElement (record { id = id; meta = meta; tags = sorted; body = body })
element id meta tags sorted body in_range ranges places p utf8 fits clean up short = record {
  in_range = in_range;
  meta_in_range = ranges;
  body_in_range = places;
  utf8 = utf8;
  fits = fits_sorted meta tags sorted body p fits;
  clean = each_text_sorted HasNoNul meta tags sorted body p clean;
  rising = rising (λ (tag : Tag). tag.key) nat_list_cmp_total sorted up;
  short_line = short;
}

-- keys that differ rise once they are sorted
pub twice : (tags sorted : List Tag) → IsPermutation tags sorted → IsSortedByKey (λ (tag : Tag). tag.key) (slice_cmp nat_cmp) sorted
    → (AllAdjacentBelow (Below (λ (tag : Tag). tag.key) (slice_cmp nat_cmp)) sorted (length sorted) → ⊥) → HasDistinctKeys tags → ⊥
twice tags sorted p up not differ =
    let same : IsPermutation (map (λ (tag : Tag). tag.key) tags) (map (λ (tag : Tag). tag.key) sorted) = IsPermutation-map (λ (tag : Tag). tag.key) tags sorted p in
    not (rises_from_distinct (λ (tag : Tag). tag.key) nat_list_cmp_total sorted up
    (IsDistinct-IsPermutation (eq_by_cmp (slice_cmp nat_cmp)) ((eq_by_cmp_equiv nat_list_cmp_total).symm) _ _ same differ))

-- two objects with the same parts are one
pub same_element : (a b : Element) → a.id ≡ b.id → a.meta ≡ b.meta → a.tags ≡ b.tags → a.body ≡ b.body → a ≡ b
same_element a b p q r s =
    let f : ℤ → Element = λ x. record { id = x; meta = a.meta; tags = a.tags; body = a.body } in
    let g : Meta → Element = λ x. record { id = b.id; meta = x; tags = a.tags; body = a.body } in
    let h : List Tag → Element = λ x. record { id = b.id; meta = b.meta; tags = x; body = a.body } in
    let k : Body → Element = λ x. record { id = b.id; meta = b.meta; tags = b.tags; body = x } in
    ap f p ∙ (ap g q ∙ (ap h r ∙ ap k s))

subst2 : {X Y : Type 0} (P : X → Y → Type 0) {a b : X} {c d : Y} → a ≡ b → c ≡ d → P a c → P b d
subst2 P {a} {b} {c} {d} p q h = subst (λ y. P b y) q (subst (λ x. P x c) p h)

-- parts of which an object was made have no fault
pub faultless : (o : Element) (id : ℤ) (meta : Meta) (tags : List Tag) (body : Body) → IsMadeOf o id meta tags body → IsElement o
    → (fault : ModelFault) → Refuses id meta tags body fault → ⊥
faultless o id meta tags body made is LimitPassed (inl long) = long (subst2 (λ m b. Fits m tags b) made.same_meta made.same_body (fits_sorted o.meta o.tags tags o.body (IsPermutation-sym tags o.tags made.same_tags) is.fits))
faultless o id meta tags body made is LimitPassed (inr long) =
    let other = long.1.0 in
    let same : o.tags ≡ other.tags = same_order (λ (tag : Tag). tag.key) nat_list_cmp_total tags o.tags other.tags made.same_tags long.1.1.same_tags is.rising long.1.1.rising in
    let line : canonical_line o ≡ canonical_line other = ap (λ x. canonical_line x) (same_element o other (made.same_id ∙ sym long.1.1.same_id) (made.same_meta ∙ sym long.1.1.same_meta) same (made.same_body ∙ sym long.1.1.same_body)) in
    omega (arith, is.short_line, long.1.2, ap (λ x. length x) line)
faultless o id meta tags body made is NulInText (fits, unclean) = unclean (subst2 (λ m b. IsClean m tags b) made.same_meta made.same_body (each_text_sorted HasNoNul o.meta o.tags tags o.body (IsPermutation-sym tags o.tags made.same_tags) is.clean))
faultless o id meta tags body made is KeyTwice (fits, clean, again) = again
    (IsDistinct-IsPermutation (eq_by_cmp (slice_cmp nat_cmp)) ((eq_by_cmp_equiv nat_list_cmp_total).symm) _ _
    (IsPermutation-map (λ (tag : Tag). tag.key) o.tags tags (IsPermutation-sym tags o.tags made.same_tags)) (IsDistinct-from_sorted (slice_cmp nat_cmp) (map (λ (tag : Tag). tag.key) o.tags) is.rising))
faultless o id meta tags body made is SouthAboveNorth h = h
faultless o id meta tags body made is ObjectTwice h = h
faultless o id meta tags body made is EmptyNumber h = h
faultless o id meta tags body made is NotDecimal h = h
faultless o id meta tags body made is TooManyDecimals h = h
faultless o id meta tags body made is OutOfRange h = h

-- metadata with the same parts is one
pub same_meta : (a b : Meta) → a.version ≡ b.version → a.changeset ≡ b.changeset → a.stamp ≡ b.stamp → a.uid ≡ b.uid → a.user ≡ b.user → a ≡ b
same_meta a b p q r s t =
    let f : ℕ → Meta = λ x. record { version = x; changeset = a.changeset; stamp = a.stamp; uid = a.uid; user = a.user } in
    let g : ℤ → Meta = λ x. record { version = b.version; changeset = x; stamp = a.stamp; uid = a.uid; user = a.user } in
    let h : Option Moment → Meta = λ x. record { version = b.version; changeset = b.changeset; stamp = x; uid = a.uid; user = a.user } in
    let k : ℤ → Meta = λ x. record { version = b.version; changeset = b.changeset; stamp = b.stamp; uid = x; user = a.user } in
    let l : List ℕ → Meta = λ x. record { version = b.version; changeset = b.changeset; stamp = b.stamp; uid = b.uid; user = x } in
    ap f p ∙ (ap g q ∙ (ap h r ∙ (ap k s ∙ ap l t)))
