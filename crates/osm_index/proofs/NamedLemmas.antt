-- Objects that are read from their lines, and those that have some names.
use Rattle.std.proofs.Common.{◌≡◌, ◌↔◌, inl, inr, ℕ, ◌+◌, ◌<◌, FitsSigned, w64, List, [], ◌∷◌, ◌++◌, length, get_or, take, false, Option, Some, None, Result, Ok, refl, sym, ap, subst, ◌∙◌}
use Rattle.std.specs.List.{AllByRecursion, Contains, IsDistinct, cons_option, filter_map, slice_get}
use Rattle.std.specs.Ordering.{eq_by_cmp}
use Rattle.std.specs.Prelude.{MatchResult}
use Rattle.std.proofs.lemmas.List.{map-append, take_more}
use Rattle.std.proofs.lemmas.List.Elements.{filter_map-append}
use Rattle.osm_model.specs.CanonicalLine.{canonical_line}
use Rattle.osm_model.specs.Elements.{Element, ref_cmp, reference, references}
use Rattle.osm_model.specs.Limits.{IsElement}
use Rattle.osm_model.specs.Sets.{HasDistinctReferences, IsObjectSet, object_at}
use Rattle.osm_model.specs.declared.reference.Ref.{Ref}
use Rattle.opl_codec.specs.LineChanges.{Spells}
use Rattle.opl_codec.specs.declared.cause.OplCause.TheVariants as causes
use Rattle.opl_codec.specs.declared.change.Change.{Change}
use Rattle.opl_codec.specs.declared.change.Change.TheVariants.{Put, Delete}
use Rattle.opl_codec.specs.declared.fault.OplFault.{OplFault}
use Rattle.opl_codec.proofs.shared.CanonicalLines.{canonical_line_spells}
use Rattle.tree_node.specs.NodeRefs.{binding_of, bindings_of}
use Rattle.tree_node.specs.Nodes.{Binding}
use Rattle.tree_node.specs.declared.item.Item.{Item}
use Rattle.osm_index.specs.Applying.{name_of, names_of}
use Rattle.tree_node.specs.declared.tree.Tree.TheVariants.{Objects}
use Rattle.tree_walk.specs.Choices.{AreThose}
use Rattle.tree_walk.specs.Walks.{IsEntryIn}
use Rattle.osm_keys.specs.Entries.{object_entry}
use Rattle.osm_keys.proofs.shared.OnePublication.{whole_grain}
use Rattle.osm_keys.specs.Grains.{Grain, Whole}
use Rattle.osm_keys.specs.Keys.{ref_key}
use Rattle.osm_keys.specs.Publications.{IsPublication, Publication}
use Rattle.osm_keys.proofs.shared.Members.{first_or_in_rest, here, in_rest, none}
use Rattle.osm_keys.proofs.shared.OneObject.{is_element, object_found, object_there}
use Rattle.osm_keys.proofs.shared.RangeLaws.{object_is_found}

-- ---- an object, read from its line

-- what reading a line gives that puts this object
abbrev pub IsPutOr : Result (Option Change) OplFault → Element → Type 0
IsPutOr result o = MatchResult result (λ found. found ≡ Some (Put o)) (λ fault. fault.cause ≡ causes.Memory)

pub line_puts : (line : List ℕ) (o : Element) → IsElement o → line ≡ canonical_line o → Spells line (Put o)
line_puts line o is e = subst (λ (l : List ℕ). Spells l (Put o)) (sym e) (canonical_line_spells o is)

pub put_is : (result : Result (Option Change) OplFault) (o x : Element) → IsPutOr result o → result ≡ Ok (Some (Put x)) → x ≡ o
put_is result o x is e = let same : Some (Put x) ≡ Some (Put o) = subst (λ (r : Result (Option Change) OplFault). IsPutOr r o) e is in Prim.cc

pub never_deleted : (result : Result (Option Change) OplFault) (o : Element) (r : Ref) → IsPutOr result o → result ≡ Ok (Some (Delete r)) → ⊥
never_deleted result o r is e = let same : Some (Delete r) ≡ Some (Put o) = subst (λ (s : Result (Option Change) OplFault). IsPutOr s o) e is in Prim.cc

pub never_none : (result : Result (Option Change) OplFault) (o : Element) → IsPutOr result o → result ≡ Ok None → ⊥
never_none result o is e = let same : None ≡ Some (Put o) = subst (λ (s : Result (Option Change) OplFault). IsPutOr s o) e is in Prim.cc

-- ---- what the range of one object finds

abbrev pub IsFoundAs : List Element → Ref → List Binding → Type 0
IsFoundAs objects r found = (b : Binding) → Contains found b ↔ ((o : Element) × (object_at objects r ≡ Some o) × (b ≡ object_entry Whole o))

-- what is in the range of its key
pub found_as : (p : Publication) → IsPublication p → (r : Ref) → FitsSigned w64 r.id → (key : List ℕ) → key ≡ ref_key r → (found : List Binding) → AreThose (IsEntryIn (record { lo = key; hi = key; under = false })) (p.entries Objects) found → IsFoundAs p.objects r found
found_as p is r fits key same found those =
    subst (λ (grain : Grain). (b : Binding) → Contains found b ↔ ((o : Element) × (object_at p.objects r ≡ Some o) × (b ≡ object_entry grain o))) (whole_grain p.edition)
    (object_is_found p is r fits found (subst (λ (k : List ℕ). AreThose (IsEntryIn (record { lo = k; hi = k; under = false })) (p.entries Objects) found) same those))

-- nothing, where the object isn't there
pub none_found : (objects : List Element) (r : Ref) (found : List Item) → slice_get found 0 ≡ None → IsFoundAs objects r (bindings_of found) → object_at objects r ≡ None
none_found objects r (item ∷ found) nowhere is = absurd (let e : Some item ≡ None = nowhere in Prim.cc)
none_found objects r [] nowhere is = at (object_at objects r) refl
  where
    at : (o : Option Element) → object_at objects r ≡ o → object_at objects r ≡ None
    at None e = e
    at (Some o) e = absurd (none (object_entry Whole o) ((is (object_entry Whole o)).1 (o, e, refl)))

-- else its entry, first
pub first_found : (objects : List Element) (r : Ref) (found : List Item) (item : Item) → slice_get found 0 ≡ Some item → IsObjectSet objects → IsFoundAs objects r (bindings_of found)
    → (o : Element) × (object_at objects r ≡ Some o) × IsElement o × (item.value.now ≡ canonical_line o)
first_found objects r [] item nowhere set is = absurd (let e : None ≡ Some item = nowhere in Prim.cc)
first_found objects r (other ∷ found) item first set is =
    let found_first : Some other ≡ Some item = first in
    let same : other ≡ item = Prim.cc in
    let (o, at, entry) = (is (binding_of other)).0 (here (binding_of other) (bindings_of found)) in
    let there = object_found objects r o at in
    (o, at, is_element objects o set there.0, ap (λ (i : Item). i.value.now) (sym same) ∙ ap (λ (c : Binding). c.value) entry)

-- ---- the objects of some names

module _ (objects : List Element) where
  abbrev pub found_of : List Ref → List Element
  found_of names = filter_map (object_at objects) names

  -- what holds of all names holds of those of the objects
  fewer : (P : Ref → Type 0) (names : List Ref) → AllByRecursion P names → AllByRecursion P (references (found_of names))
  fewer P [] h = tt
  fewer P (r ∷ names) h = by (object_at objects r) refl (fewer P names h.1)
    where
      by : (o : Option Element) → object_at objects r ≡ o → AllByRecursion P (references (found_of names)) → AllByRecursion P (references (cons_option o (found_of names)))
      by None e rest = rest
      by (Some o) e rest = (subst P (sym (object_found objects r o e).1) h.0, rest)

  pub found_apart : (names : List Ref) → IsDistinct (eq_by_cmp ref_cmp) names → HasDistinctReferences (found_of names)
  unfolding IsDistinct
  found_apart [] h = tt
  found_apart (r ∷ names) h = by (object_at objects r) refl (found_apart names h.1)
    where
      by : (o : Option Element) → object_at objects r ≡ o → HasDistinctReferences (found_of names) → HasDistinctReferences (cons_option o (found_of names))
      by None e rest = rest
      by (Some o) e rest = (subst (λ (s : Ref). AllByRecursion (λ (y : Ref). eq_by_cmp ref_cmp s y ≡ false) (references (found_of names))) (sym (object_found objects r o e).1) (fewer (λ (y : Ref). eq_by_cmp ref_cmp r y ≡ false) names h.0), rest)

  pub found_from : (names : List Ref) (o : Element) → Contains (found_of names) o → Contains objects o × Contains names (reference o)
  found_from [] o h = absurd (none o h)
  found_from (r ∷ names) o h = by (object_at objects r) refl h (found_from names o)
    where
      by : (x : Option Element) → object_at objects r ≡ x → Contains (cons_option x (found_of names)) o → (Contains (found_of names) o → Contains objects o × Contains names (reference o)) → Contains objects o × Contains (r ∷ names) (reference o)
      by None e is rest = let found = rest is in (found.0, in_rest r names (reference o) found.1)
      by (Some x) e is rest = elim (first_or_in_rest x (found_of names) o is) [
        | inl same ↦
            let there = object_found objects r x e in
            (subst (λ (y : Element). Contains objects y) same there.0, subst (λ (s : Ref). Contains (r ∷ names) s) (sym there.1 ∙ ap (λ (y : Element). reference y) same) (here r names))
        | inr later ↦ let found = rest later in (found.0, in_rest r names (reference o) found.1)
      ]

  pub found_to : IsObjectSet objects → (names : List Ref) (o : Element) → Contains objects o → Contains names (reference o) → Contains (found_of names) o
  found_to set [] o is named = absurd (none (reference o) named)
  found_to set (r ∷ names) o is named = elim (first_or_in_rest r names (reference o) named) [
    | inl same ↦ here_by (object_at objects r) (ap (object_at objects) same ∙ object_there objects o set is)
    | inr later ↦ later_by (object_at objects r) (found_to set names o is later)
  ]
    where
      here_by : (x : Option Element) → x ≡ Some o → Contains (cons_option x (found_of names)) o
      here_by None e = absurd Prim.cc
      here_by (Some x) e = let one : x ≡ o = Prim.cc in subst (λ (y : Element). Contains (x ∷ found_of names) y) one (here x (found_of names))

      later_by : (x : Option Element) → Contains (found_of names) o → Contains (cons_option x (found_of names)) o
      later_by None there = there
      later_by (Some x) there = in_rest x (found_of names) o there

-- one change more
pub found_more : (objects : List Element) (changes : List Change) (i : ℕ) (c : Change) (old new : List Element) → i < length changes → c ≡ get_or changes i c → old ≡ filter_map (object_at objects) (names_of (take i changes))
    → new ≡ old ++ filter_map (object_at objects) (name_of c ∷ []) → new ≡ filter_map (object_at objects) (names_of (take (i + 1) changes))
found_more objects changes i c old new inside is before one =
    let more : names_of (take (i + 1) changes) ≡ names_of (take i changes) ++ name_of c ∷ [] =
    ap names_of (take_more changes i c inside ∙ ap (λ (x : Change). take i changes ++ x ∷ []) (sym is)) ∙ map-append name_of (take i changes) (c ∷ []) in
    one ∙ ap (λ (xs : List Element). xs ++ filter_map (object_at objects) (name_of c ∷ [])) before ∙ sym (ap (filter_map (object_at objects)) more ∙ filter_map-append (object_at objects) (names_of (take i changes)) (name_of c ∷ []))
