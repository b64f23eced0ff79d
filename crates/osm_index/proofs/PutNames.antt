-- The objects that changes put, and the deletes of objects that are there.
use Rattle.std.proofs.Common.{◌≡◌, ◌↔◌, inl, inr, false, List, [], ◌∷◌, ◌++◌, None, Some, refl, ap, subst}
use Rattle.std.specs.List.{AllByRecursion, Contains, IsDistinct, filter_map}
use Rattle.std.specs.Ordering.{eq_by_cmp}
use Rattle.std.proofs.lemmas.List.Elements.{Contains-append_cases}
use Rattle.osm_model.specs.Elements.{Element, ref_cmp, reference, references}
use Rattle.osm_model.specs.Sets.{HasDistinctReferences, IsObjectSet, object_at}
use Rattle.osm_model.specs.declared.reference.Ref.{Ref}
use Rattle.opl_codec.specs.declared.change.Change.{Change}
use Rattle.opl_codec.specs.declared.change.Change.TheVariants.{Put, Delete}
use Rattle.osm_index.specs.Applying.{AreApart, DeleteThere, names_of}
use Rattle.osm_index.specs.internal.Applying.{put_in}
use Rattle.osm_keys.proofs.shared.Members.{first_or_in_rest, from_map, here, in_map, in_rest, none}
use Rattle.osm_keys.proofs.shared.OneObject.{object_found, object_there}

-- what holds of all names holds of those of the objects that are put
fewer : (P : Ref → Type 0) (all : List Change) → AllByRecursion P (names_of all) → AllByRecursion P (references (filter_map put_in all))
fewer P [] h = tt
fewer P (Put o ∷ all) h = (h.0, fewer P all h.1)
fewer P (Delete r ∷ all) h = fewer P all h.1

pub puts_apart : (all : List Change) → AreApart all → HasDistinctReferences (filter_map put_in all)
unfolding IsDistinct
puts_apart [] h = tt
puts_apart (Put o ∷ all) h = (fewer (λ (y : Ref). eq_by_cmp ref_cmp (reference o) y ≡ false) all h.0, puts_apart all h.1)
puts_apart (Delete r ∷ all) h = puts_apart all h.1

pub put_members : (all : List Change) (o : Element) → Contains (filter_map put_in all) o ↔ Contains all (Put o)
put_members [] o = ((λ h. absurd (none o h)), (λ h. absurd (none (Put o) h)))
put_members (Put p ∷ all) o =
    let rest = put_members all o in (
      (λ h. elim (first_or_in_rest p (filter_map put_in all) o h) [
        | inl e ↦ subst (λ (x : Element). Contains (Put p ∷ all) (Put x)) e (here (Put p) all)
        | inr r ↦ in_rest (Put p) all (Put o) (rest.0 r)
      ]),
      (λ h. elim (first_or_in_rest (Put p) all (Put o) h) [
        | inl e ↦ subst (λ (x : Element). Contains (p ∷ filter_map put_in all) x) (cc) (here p (filter_map put_in all))
        | inr r ↦ in_rest p (filter_map put_in all) o (rest.1 r)
      ]),
    )
put_members (Delete n ∷ all) o =
    let rest = put_members all o in (
      (λ h. in_rest (Delete n) all (Put o) (rest.0 h)),
      (λ h. elim (first_or_in_rest (Delete n) all (Put o) h) [ inl e ↦ absurd (cc) | inr r ↦ rest.1 r ]),
    )

-- ---- deletes

pub put_there : (objects : List Element) (o : Element) → DeleteThere objects (Put o ∷ [])
put_there objects o = λ r h. elim (first_or_in_rest (Put o) [] (Delete r) h) [ inl e ↦ absurd (cc) | inr k ↦ absurd (none (Delete r) k) ]

pub found_there : (objects : List Element) (name : Ref) (o : Element) → object_at objects name ≡ Some o → DeleteThere objects (Delete name ∷ [])
found_there objects name o found = λ r h.
    let is = object_found objects name o found in
    let member : Contains (references objects) name = subst (λ (x : Ref). Contains (references objects) x) is.1 (in_map (λ (x : Element). reference x) objects o is.0) in
    elim (first_or_in_rest (Delete name) [] (Delete r) h) [
      | inl e ↦ subst (λ (x : Ref). Contains (references objects) x) (cc) member
      | inr k ↦ absurd (none (Delete r) k)
    ]

pub none_there : (objects : List Element) (name : Ref) → IsObjectSet objects → object_at objects name ≡ None → ¬ Contains (references objects) name
none_there objects name set missing h =
    let found = from_map (λ (x : Element). reference x) objects name h in
    let there = object_there objects found.0 set found.1 in
    let same = ap (object_at objects) (found.2) in
    absurd (cc)

pub there_more : (objects : List Element) (all : List Change) (c : Change) → DeleteThere objects all → DeleteThere objects (c ∷ []) → DeleteThere objects (all ++ c ∷ [])
there_more objects all c before one = λ r h. elim (Contains-append_cases all (c ∷ []) (Delete r) h) [ inl k ↦ before r k | inr k ↦ one r k ]

pub puts-append : (all more : List Change) → filter_map put_in (all ++ more) ≡ filter_map put_in all ++ filter_map put_in more
puts-append [] more = refl
puts-append (Put o ∷ all) more = ap (λ (xs : List Element). o ∷ xs) (puts-append all more)
puts-append (Delete r ∷ all) more = puts-append all more
