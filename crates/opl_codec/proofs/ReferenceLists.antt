-- References of which no two are one, and one more.
use Rattle.std.proofs.Common.{◌≡◌, ℕ, zero, suc, ◌+◌, ◌-◌, ◌≤◌, List, length, arith, Some, option_map, Result, Ok, Err, IfOk, OnOk, Global, [], ◌∷◌, ◌++◌, Bool, true, false, not, ◌||◌, cond, refl, sym, ◌∙◌, ap}
use Rattle.std.specs.BTreeSet.{BTreeSet, Updates, contains}
use Rattle.std.specs.Bool.{MatchBool}
use Rattle.std.specs.List.{AllByRecursion, IsDistinct, slice_get}
use Rattle.std.specs.List.Sorted.{IsStrictlySortedBy}
use Rattle.std.specs.Ordering.{eq_by_cmp, is_lt}
use Rattle.std.specs.Set.{is_member}
use Rattle.std.specs.declared.alloc.AllocError.{AllocError}
use Rattle.std.specs.declared.cmp.Ordering.{Ordering}
use Rattle.std.specs.declared.cmp.Ordering.TheVariants.{Less, Equal, Greater}
use Rattle.std.proofs.lemmas.Cmp.{eq_by_cmp_equiv}
use Rattle.std.proofs.lemmas.Map.Keys.{IsDistinct-push}
use Rattle.std.proofs.lemmas.List.{length-map}
use Rattle.std.proofs.lemmas.Option.{slice_get-map}
use Rattle.osm_model.specs.Elements.{Element, reference, references, ref_cmp}
use Rattle.osm_model.specs.declared.reference.Ref.{Ref}
use Rattle.osm_model.proofs.shared.References.{refs_total}
use Rattle.opl_codec.specs.internal.Loading.{AreApart, HasJust, Knows}

-- two references are one
abbrev pub ref_is : Ref → Ref → Bool
ref_is a b = eq_by_cmp ref_cmp a b

ref_is-sym : (a b : Ref) → ref_is a b ≡ ref_is b a
ref_is-sym a b = (eq_by_cmp_equiv refs_total).symm a b

pub references-push : (objects : List Element) (o : Element) → references (objects ++ o ∷ []) ≡ references objects ++ reference o ∷ []
references-push [] o = refl
references-push (x ∷ objects) o = ap (λ names. reference x ∷ names) (references-push objects o)

all_last : {X : Type 0} (P : X → Type 0) (xs : List X) (y : X) → AllByRecursion P (xs ++ y ∷ []) → P y
all_last P [] y h = h.0
all_last P (x ∷ xs) y h = all_last P xs y h.1

all_push : {X : Type 0} (P : X → Type 0) (xs : List X) (y : X) → AllByRecursion P xs → P y → AllByRecursion P (xs ++ y ∷ [])
all_push P [] y h last = (last, tt)
all_push P (x ∷ xs) y h last = (h.0, all_push P xs y h.1 last)

-- a reference that is there isn't apart from the others
member_repeats : (names : List Ref) (name : Ref) → is_member ref_is names name ≡ true → AreApart (names ++ name ∷ []) → ⊥
unfolding IsDistinct
member_repeats [] name there apart = cc
member_repeats (x ∷ names) name there apart =
    let differ : ref_is name x ≡ false = ref_is-sym name x ∙ all_last (λ y. ref_is x y ≡ false) names name apart.0 in
    member_repeats names name (sym (ap (λ b. b || is_member ref_is names name) differ) ∙ there) apart.1

member-push : (names : List Ref) (name q : Ref) → is_member ref_is (names ++ name ∷ []) q ≡ cond (ref_is name q) true (is_member ref_is names q)
member-push [] name q = rw (ref_is-sym q name) (elim (ref_is name q) as (λ b. (b || false) ≡ cond b true false) [ true ↦ refl | false ↦ refl ])
member-push (x ∷ names) name q =
    ap (λ b. ref_is q x || b) (member-push names name q)
    ∙ (elim (ref_is q x) as (λ a. (a || cond (ref_is name q) true (is_member ref_is names q)) ≡ cond (ref_is name q) true (a || is_member ref_is names q)) [
      | true ↦ elim (ref_is name q) as (λ b. true ≡ cond b true true) [ true ↦ refl | false ↦ refl ]
      | false ↦ refl
    ])

pub just_more : (old new : BTreeSet Ref) (names : List Ref) (name : Ref) → HasJust old names → Updates ref_cmp old new name true → HasJust new (names ++ name ∷ [])
just_more old new names name just updates q = updates.0 q ∙ ap (cond (ref_is name q) true) (just q) ∙ sym (member-push names name q)

not_true : (b : Bool) → true ≡ not b → b ≡ false
not_true true e = cc
not_true false e = refl

not_false : (b : Bool) → false ≡ not b → b ≡ true
not_false true e = refl
not_false false e = cc

-- what `insert` tells of one more
inserted : (alloc : Global) (old new : BTreeSet Ref) (names : List Ref) (name : Ref) (is_new : Bool) → AreApart names → HasJust old names → is_new ≡ not (contains ref_cmp old name) → Updates ref_cmp old new name true
    → MatchBool is_new (Knows (record { alloc = alloc; kept = Some new }) (names ++ name ∷ [])) (AreApart (names ++ name ∷ []) → ⊥)
inserted alloc old new names name true apart just told updates =
    let absent : is_member ref_is names name ≡ false = sym (just name) ∙ not_true (contains ref_cmp old name) told in
    record { apart = IsDistinct-push (eq_by_cmp_equiv refs_total) names name apart absent; kept = just_more old new names name just updates }
inserted alloc old new names name false apart just told updates = member_repeats names name (sym (just name) ∙ not_false (contains ref_cmp old name) told)

pub inserted_if_ok : (alloc : Global) (old new : BTreeSet Ref) (names : List Ref) (name : Ref) (r : Result Bool AllocError) → AreApart names → HasJust old names
    → IfOk r (λ is_new. is_new ≡ not (contains ref_cmp old name)) → OnOk r (Updates ref_cmp old new name true)
    → IfOk r (λ is_new. MatchBool is_new (Knows (record { alloc = alloc; kept = Some new }) (names ++ name ∷ [])) (AreApart (names ++ name ∷ []) → ⊥))
inserted_if_ok alloc old new names name (Ok is_new) apart just told updates = inserted alloc old new names name is_new apart just told updates
inserted_if_ok alloc old new names name (Err error) apart just told updates = tt

-- ---- rising references

abbrev pub Rise : List Ref → Type 0
Rise names = IsStrictlySortedBy ref_cmp names

rise-push : (names : List Ref) (n : ℕ) (last name : Ref) → n + 1 ≡ length names → slice_get names n ≡ Some last → ref_cmp last name ≡ Less → Rise names → Rise (names ++ name ∷ [])
unfolding IsStrictlySortedBy
rise-push [] n last name len is below rise = absurd (omega arith)
rise-push (x ∷ []) zero last name len is below rise = let same : x ≡ last = cc in ((ap (λ r. ref_cmp r name) same ∙ below, tt), (tt, tt))
rise-push (x ∷ []) (suc n) last name len is below rise = absurd (omega arith)
rise-push (x ∷ y ∷ names) zero last name len is below rise = absurd (omega arith)
rise-push (x ∷ y ∷ names) (suc n) last name len is below rise =
    let rest = rise-push (y ∷ names) n last name (omega arith) is below rise.1 in
    let next : ref_cmp y name ≡ Less = all_last (λ z. ref_cmp y z ≡ Less) names name rest.0 in
    (all_push (λ z. ref_cmp x z ≡ Less) (y ∷ names) name rise.0 (refs_total.trans x y name rise.0.0 next), rest)

less : (o : Ordering) → is_lt o ≡ true → o ≡ Less
less Less same = refl
less Equal same = cc
less Greater same = cc

-- one above the last one
pub rises_above : (objects : List Element) (last : Element) (name : Ref) → 1 ≤ length objects → slice_get objects (length objects - 1) ≡ Some last → is_lt (ref_cmp (reference last) name) ≡ true
    → Rise (references objects) → Rise (references objects ++ name ∷ [])
rises_above objects last name some is below rise =
    rise-push (references objects) (length objects - 1) (reference last) name (omega (arith, length-map objects (λ (o : Element). reference o)))
    (slice_get-map (λ (o : Element). reference o) objects (length objects - 1) ∙ ap (option_map (λ (o : Element). reference o)) is) (less _ below) rise

-- the first one
pub rises_first : (objects : List Element) (name : Ref) → length objects ≤ 0 → Rise (references objects ++ name ∷ [])
unfolding IsStrictlySortedBy
rises_first [] name none = (tt, tt)
rises_first (x ∷ objects) name none = absurd (omega arith)
