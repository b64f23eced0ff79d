-- The first line that repeats a reference, of lines that rise.
use Rattle.std.proofs.Common.{◌≡◌, ◌≢◌, ◌⊎◌, ◌∙◌, inl, inr, ℕ, ◌<◌, ◌≤◌, FitsSigned, w64, Bool, true, false, List, [], ◌∷◌, ◌++◌, length, map, refl, sym, ap, subst, arith, None}
use Rattle.std.specs.Int.{to_be_bytes}
use Rattle.std.specs.List.{AllByRecursion, Contains, IsDistinct}
use Rattle.std.specs.Ordering.{eq_by_cmp, is_eq, ordering_reverse}
use Rattle.std.specs.declared.cmp.Ordering.{Ordering}
use Rattle.std.specs.declared.cmp.Ordering.TheVariants.{Less, Equal, Greater}
use Rattle.std.proofs.lemmas.List.Elements.{Contains-append_left}
use Rattle.std.proofs.lemmas.Nat.{from_be_bytes-to_be_bytes_8}
use Rattle.osm_model.proofs.shared.References.{refs_total}
use Rattle.osm_model.specs.Elements.{Element, reference, references, ref_cmp}
use Rattle.osm_model.specs.Sets.{HasDistinctReferences}
use Rattle.osm_model.specs.declared.reference.Ref.{Ref}
use Rattle.osm_keys.proofs.shared.Members.{first_or_in_rest, from_map, here, in_map, in_rest, none}
use Rattle.osm_keys.proofs.shared.OneObject.{same_ref, same_reference}
use Rattle.osm_keys.specs.Keys.{ref_key}
use Rattle.external_sort.specs.Records.{Entry}
use Rattle.entry_sort.specs.internal.Names.{IsLeast, IsLeastRepeat, Named, Repeats, line_in, line_of, name_record}
use Rattle.entry_sort.specs.internal.Puts.{AreApart, LinesRise, Put, named_of, names_of, objects_of}

-- ---- references

fixed : (o : Ordering) → o ≡ ordering_reverse o → o ≡ Equal
fixed Less e = cc
fixed Equal e = refl
fixed Greater e = cc

itself : (r : Ref) → eq_by_cmp ref_cmp r r ≡ true
itself r = ap is_eq (fixed (ref_cmp r r) (refs_total.antisymm r r))

equal : (o : Ordering) → is_eq o ≡ true → o ≡ Equal
equal Less e = cc
equal Equal e = refl
equal Greater e = cc

differs : (a b : Ref) → (a ≡ b → ⊥) → (t : Bool) → eq_by_cmp ref_cmp a b ≡ t → t ≡ false
differs a b apart true e = absurd (apart (same_reference a b (equal (ref_cmp a b) e)))
differs a b apart false e = refl

-- ---- lines that rise

pub split_at : (puts : List Put) (p : Put) → Contains puts p → (before : List Put) × (after : List Put) × (puts ≡ before ++ p ∷ after)
split_at [] p h = absurd (none p h)
split_at (q ∷ puts) p h =
    elim (first_or_in_rest q puts p h) [
      | inl same ↦ ([], puts, ap (λ (r : Put). r ∷ puts) same)
      | inr more ↦ let found = split_at puts p more in (q ∷ found.0, found.1, ap (λ (ps : List Put). q ∷ ps) found.2)
    ]

at_all : {X : Type 0} (P : X → Type 0) (xs : List X) (x : X) → AllByRecursion P xs → Contains xs x → P x
at_all P [] x a h = absurd (none x h)
at_all P (y ∷ xs) x a h = elim (first_or_in_rest y xs x h) [ inl same ↦ subst P same a.0 | inr more ↦ at_all P xs x a.1 more ]

-- of a list around one
data Side (before : List Put) (x : Put) (after : List Put) (q : Put) : Type 0 where
  Before : Contains before q → q.line < x.line → Side before x after q
  Same : x ≡ q → Side before x after q
  After : Contains after q → x.line < q.line → Side before x after q

side_of : (before : List Put) (x : Put) (after : List Put) (q : Put) → LinesRise (before ++ x ∷ after) → Contains (before ++ x ∷ after) q → Side before x after q
side_of [] x after q r h = elim (first_or_in_rest x after q h) [ inl same ↦ Same same | inr more ↦ After more (at_all (λ (p : Put). x.line < p.line) after q r.0 more) ]
side_of (b ∷ before) x after q r h =
    elim (first_or_in_rest b (before ++ x ∷ after) q h) [
      | inl same ↦ Before (subst (λ (p : Put). Contains (b ∷ before) p) same (here b before)) (subst (λ (p : Put). p.line < x.line) same (first before r.0))
      | inr more ↦ elim (side_of before x after q r.1 more) [
        | Before c lt ↦ Before (in_rest b before q c) lt
        | Same is ↦ Same is
        | After c lt ↦ After c lt
      ]
    ]
  where
    first : (bs : List Put) → AllByRecursion (λ (p : Put). b.line < p.line) (bs ++ x ∷ after) → b.line < x.line
    first [] a = a.0
    first (c ∷ bs) a = first bs a.1

before_below : (before : List Put) (x : Put) (after : List Put) (q : Put) → LinesRise (before ++ x ∷ after) → Contains before q → q.line < x.line
before_below [] x after q r h = absurd (none q h)
before_below (b ∷ before) x after q r h =
    elim (first_or_in_rest b before q h) [
      | inl same ↦ subst (λ (p : Put). p.line < x.line) same (first before r.0)
      | inr more ↦ before_below before x after q r.1 more
    ]
  where
    first : (bs : List Put) → AllByRecursion (λ (p : Put). b.line < p.line) (bs ++ x ∷ after) → b.line < x.line
    first [] a = a.0
    first (c ∷ bs) a = first bs a.1

rise_front : (before after : List Put) → LinesRise (before ++ after) → LinesRise before
rise_front [] after r = tt
rise_front (b ∷ before) after r = (front before r.0, rise_front before after r.1)
  where
    front : (bs : List Put) → AllByRecursion (λ (p : Put). b.line < p.line) (bs ++ after) → AllByRecursion (λ (p : Put). b.line < p.line) bs
    front [] a = tt
    front (c ∷ bs) a = (a.0, front bs a.1)

-- ---- references that differ

abbrev NoRepeat : List Put → Type 0
NoRepeat puts = (p q : Put) → Contains puts p → Contains puts q → p.line < q.line → reference p.object ≡ reference q.object → ⊥

all_differ : (r : Ref) (line : ℕ) (qs : List Put) → AllByRecursion (λ (q : Put). line < q.line) qs → ((q : Put) → Contains qs q → line < q.line → r ≡ reference q.object → ⊥)
    → AllByRecursion (λ (y : Ref). eq_by_cmp ref_cmp r y ≡ false) (references (objects_of qs))
all_differ r line [] below never = tt
all_differ r line (q ∷ qs) below never =
    let d = differs r (reference q.object) (never q (here q qs) below.0) (eq_by_cmp ref_cmp r (reference q.object)) refl in
    (d, all_differ r line qs below.1 (λ x h. never x (in_rest q qs x h)))

apart_of : (puts : List Put) → LinesRise puts → NoRepeat puts → AreApart puts
unfolding IsDistinct
apart_of [] r never = tt
apart_of (p ∷ puts) r never =
    (all_differ (reference p.object) p.line puts r.0 (λ q h. never p q (here p puts) (in_rest p puts q h)), apart_of puts r.1 (λ x y h k. never x y (in_rest p puts x h) (in_rest p puts y k)))

last_differs : (r : Ref) (before : List Put) (x : Put) → AllByRecursion (λ (y : Ref). eq_by_cmp ref_cmp r y ≡ false) (references (objects_of (before ++ x ∷ []))) → eq_by_cmp ref_cmp r (reference x.object) ≡ false
last_differs r [] x a = a.0
last_differs r (b ∷ before) x a = last_differs r before x a.1

clash : (before : List Put) (x q : Put) → Contains before q → reference q.object ≡ reference x.object → AreApart (before ++ x ∷ []) → ⊥
unfolding IsDistinct
clash [] x q h same apart = none q h
clash (b ∷ before) x q h same apart =
    elim (first_or_in_rest b before q h) [
      | inl is ↦
          let refs : reference b.object ≡ reference x.object = ap (λ (p : Put). reference p.object) is ∙ same in
          let never : eq_by_cmp ref_cmp (reference x.object) (reference x.object) ≡ false = subst (λ (r : Ref). eq_by_cmp ref_cmp r (reference x.object) ≡ false) refs (last_differs (reference b.object) before x apart.0) in
          let both : true ≡ false = sym (itself (reference x.object)) ∙ never in
          cc
      | inr more ↦ clash before x q more same apart.1
    ]

-- ---- records

abbrev pub records : List Put → List Entry
records puts = map name_record (names_of puts)

record_for : Put → Entry
record_for p = name_record (named_of p)

pub record IsPut (p : Put) : Type 0 where
  pub in_range : FitsSigned w64 p.object.id
  pub small : p.line < 18446744073709551616

module _ (puts : List Put) (rise : LinesRise puts) (are : (p : Put) → Contains puts p → IsPut p) where
  line_is : (p : Put) → Contains puts p → line_of (name_record (named_of p)) ≡ p.line
  line_is p h = from_be_bytes-to_be_bytes_8 p.line (are p h).small

  in_records : (p : Put) → Contains puts p → Contains (records puts) (name_record (named_of p))
  in_records p h = in_map name_record (names_of puts) (named_of p) (in_map named_of puts p h)

  from_records : (e : Entry) → Contains (records puts) e → (p : Put) × Contains puts p × (e ≡ name_record (named_of p))
  from_records e h =
      let named = from_map name_record (names_of puts) e h in
      let put = from_map named_of puts named.0 named.1 in
      (put.0, put.1, named.2 ∙ ap name_record put.2)

  one_name : (p q : Put) → Contains puts p → Contains puts q → ref_key (reference p.object) ≡ ref_key (reference q.object) → reference p.object ≡ reference q.object
  one_name p q h k e = same_ref (reference p.object) (reference q.object) (are p h).in_range (are q k).in_range e

  repeats : (p q : Put) → Contains puts p → Contains puts q → p.line < q.line → reference p.object ≡ reference q.object → Repeats (records puts) (name_record (named_of q))
  repeats p q h k lt same = record {
    there = in_records q k;
    earlier = name_record (named_of p);
    earlier_there = in_records p h;
    same = ap ref_key same;
    before = omega (arith, lt, line_is p h, line_is q k);
  }

  -- none repeats
  pub none_repeats : IsLeastRepeat (records puts) None → AreApart puts
  none_repeats never = apart_of puts rise (λ p q h k lt same. never (name_record (named_of q)) (repeats p q h k lt same))

  -- one does
  pub first_repeats : (line : ℕ) → IsLeast (records puts) line
      → (before : List Put) × (x : Put) × (after : List Put) × (puts ≡ before ++ x ∷ after) × (x.line ≡ line) × AreApart before × (AreApart (before ++ x ∷ []) → ⊥)
  first_repeats line h =
      let (x, there, is) = from_records h.one h.repeats.there in
      let (q, q_there, q_is) = from_records h.repeats.earlier h.repeats.earlier_there in
      let (before, after, split) = split_at puts x there in
      let line_x : x.line ≡ line = sym (line_is x there) ∙ ap line_of (sym is) ∙ h.line_is in
      let keys : ref_key (reference q.object) ≡ ref_key (reference x.object) = ap (λ (e : Entry). e.key) (sym q_is) ∙ h.repeats.same ∙ ap (λ (e : Entry). e.key) is in
      let names = one_name q x q_there there keys in
      let lt : q.line < x.line = omega (arith, h.repeats.before, ap line_of q_is, ap line_of is, line_is q q_there, line_is x there) in
      let r = subst LinesRise split rise in
      let inside : (p : Put) → Contains before p → Contains puts p = λ p c. subst (λ (ps : List Put). Contains ps p) (sym split) (Contains-append_left before (x ∷ after) p c) in
      let apart : AreApart before = apart_of before (rise_front before (x ∷ after) r) (λ p s c d below same.
      let le = h.least (name_record (named_of s)) (repeats p s (inside p c) (inside s d) below same) in
      let less = before_below before x after s r d in
      omega (arith, le, line_is s (inside s d), line_x, less)) in
      let twice : AreApart (before ++ x ∷ []) → ⊥ = elim (side_of before x after q r (subst (λ (ps : List Put). Contains ps q) split q_there)) [
        | Before e less ↦ clash before x q e names
        | Same e ↦ λ _. absurd (omega (arith, lt, ap (λ (p : Put). p.line) e))
        | After e more ↦ λ _. absurd (omega (arith, lt, more))
      ] in
      (before, x, after, split, line_x, apart, twice)
