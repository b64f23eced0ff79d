-- A set of objects in which some are taken away and others are put.
use Rattle.std.proofs.Common.{◌≡◌, ◌≢◌, ◌↔◌, ◌⊎◌, inl, inr, ℕ, List, [], ◌∷◌, map, Option, Some, None, refl, sym, ap, subst, ◌∙◌}
use Rattle.std.specs.List.{AllByRecursion, Contains}
use Rattle.std.specs.List.Sorted.{IsStrictlySortedBy}
use Rattle.std.specs.declared.cmp.Ordering.TheVariants.{Less}
use Rattle.std.proofs.lemmas.List.Elements.{All-from_recursion, recursion_from_All}
use Rattle.osm_model.specs.Elements.{Element, ref_cmp, reference, references}
use Rattle.osm_model.specs.Limits.{IsElement}
use Rattle.osm_model.specs.Sets.{IsObjectSet}
use Rattle.osm_model.specs.declared.reference.Ref.{Ref}
use Rattle.tree_build.specs.Changing.{Change, changed, one_or_none}
use Rattle.tree_build.specs.internal.RisingChanges.{AreOwnAndRising, IsOwn}
use Rattle.tree_build.specs.internal.Weaving.{IsIn}
use Rattle.tree_build.proofs.ChangedLaw.{IsPut, changed_holds}
use Rattle.tree_build.proofs.DifferChanges.{changed_rises}
use Rattle.tree_build.proofs.WeaveLemmas.{above_low}
use Rattle.tree_node.specs.Nodes.{AreRisingFrom}
use Rattle.osm_keys.specs.Keys.{ref_key}
use Rattle.osm_index.specs.internal.ChangedTrees.{IsChangedSet}
use Rattle.osm_index.proofs.ChangedSetLemmas.{own_and_rising, put_by, puts_by}
use Rattle.osm_index.proofs.ItemLemmas.{all_of_each, each_of, from_list, from_mapped, in_list, in_mapped, one_with_key}
use Rattle.osm_keys.proofs.shared.KeyOrder.{keys_as_refs}
use Rattle.osm_keys.proofs.shared.OneObject.{is_element, same_ref}

abbrev pub key_at : Element → List ℕ
key_at o = ref_key (reference o)

abbrev pub RiseAt : Option (List ℕ) → List Element → Type 0
RiseAt low objects = AreRisingFrom low (map key_at objects)

-- ---- by rising reference, and by rising key

rise_above : (low : Element) (objects : List Element) → IsElement low → AllByRecursion IsElement objects → AllByRecursion (λ (r : Ref). ref_cmp (reference low) r ≡ Less) (references objects) → IsStrictlySortedBy ref_cmp (references objects)
    → RiseAt (Some (key_at low)) objects
unfolding IsStrictlySortedBy
rise_above low [] is are above sorted = tt
rise_above low (o ∷ objects) is are above sorted =
    ((keys_as_refs (reference low) (reference o) is.in_range are.0.in_range).0 above.0, rise_above o objects are.0 are.1 sorted.0 sorted.1)

rise_of : (objects : List Element) → AllByRecursion IsElement objects → IsStrictlySortedBy ref_cmp (references objects) → RiseAt None objects
unfolding IsStrictlySortedBy
rise_of [] are sorted = tt
rise_of (o ∷ objects) are sorted = (tt, rise_above o objects are.0 are.1 sorted.0 sorted.1)

pub set_rises : (objects : List Element) → IsObjectSet objects → RiseAt None objects
set_rises objects set = rise_of objects (recursion_from_All IsElement objects set.elements) set.rising

all_refs : (P : Ref → Type 0) (objects : List Element) → ((o : Element) → IsIn o objects → P (reference o)) → AllByRecursion P (references objects)
all_refs P [] each = tt
all_refs P (o ∷ objects) each = (each o (inl refl), all_refs P objects (λ x is. each x (inr is)))

sorted_of : (low : Option (List ℕ)) (objects : List Element) → AllByRecursion IsElement objects → RiseAt low objects → IsStrictlySortedBy ref_cmp (references objects)
unfolding IsStrictlySortedBy
sorted_of low [] are rise = tt
sorted_of low (o ∷ objects) are rise = (
  all_refs (λ (r : Ref). ref_cmp (reference o) r ≡ Less) objects
      (λ x is. (keys_as_refs (reference o) (reference x) are.0.in_range (each_of IsElement objects are.1 x is).in_range).1 (above_low key_at (key_at o) objects rise.1 x is)),
  sorted_of (Some (key_at o)) objects are.1 rise.1,
)

set_of : (objects : List Element) → ((o : Element) → IsIn o objects → IsElement o) → RiseAt None objects → IsObjectSet objects
set_of objects each rise =
    let are = all_of_each IsElement objects each in
    record { rising = sorted_of None objects are rise; elements = All-from_recursion IsElement objects are }

-- ---- the changed set

abbrev take_of : Element → Change Element
take_of o = record { key = key_at o; put = None }

abbrev put_at : Element → Change Element
put_at o = record { key = key_at o; put = Some o }

takes_rise : (low : Option (List ℕ)) (objects : List Element) → RiseAt low objects → AreRisingFrom low (map (λ (c : Change Element). c.key) (map take_of objects))
takes_rise low [] rise = tt
takes_rise low (o ∷ objects) rise = (rise.0, takes_rise (Some (key_at o)) objects rise.1)

puts_rise : (low : Option (List ℕ)) (objects : List Element) → RiseAt low objects → AreRisingFrom low (map (λ (c : Change Element). c.key) (map put_at objects))
puts_rise low [] rise = tt
puts_rise low (o ∷ objects) rise = (rise.0, puts_rise (Some (key_at o)) objects rise.1)

takes_own : (objects : List Element) → AllByRecursion (IsOwn key_at) (map take_of objects)
takes_own [] = tt
takes_own (o ∷ objects) = (tt, takes_own objects)

puts_own : (objects : List Element) → AllByRecursion (IsOwn key_at) (map put_at objects)
puts_own [] = tt
puts_own (o ∷ objects) = (refl, puts_own objects)

module _ (objects removed puts : List Element) (set : IsObjectSet objects) (old : IsObjectSet removed) (new : IsObjectSet puts)
    (there : (o : Element) → Contains removed o → Contains objects o) (apart : (o x : Element) → Contains puts o → Contains objects x → reference x ≡ reference o → Contains removed x) where
  takes : AreOwnAndRising key_at (map take_of removed)
  takes = own_and_rising key_at None (map take_of removed) (takes_rise None removed (set_rises removed old)) (takes_own removed)

  puttings : AreOwnAndRising key_at (map put_at puts)
  puttings = own_and_rising key_at None (map put_at puts) (puts_rise None puts (set_rises puts new)) (puts_own puts)

  -- without the old ones
  abbrev rest : List Element
  rest = changed key_at objects (map take_of removed)

  -- and with those put
  abbrev pub changed_set : List Element
  changed_set = changed key_at rest (map put_at puts)

  rest_rises : RiseAt None rest
  rest_rises = changed_rises key_at objects (map take_of removed) (set_rises objects set) takes

  none_put : (n : Element) (os : List Element) → ¬ IsPut key_at (map take_of os) n
  none_put n [] is = is
  none_put n (o ∷ os) is = elim is [ inl first ↦ first | inr later ↦ none_put n os later ]

  rest_holds : (n : Element) → IsIn n rest ↔ (IsIn n objects × ¬ IsIn n removed)
  rest_holds n = (
    (λ is. elim ((changed_holds key_at objects (map take_of removed) (set_rises objects set) takes n).0 is) [
      | inl put ↦ absurd (none_put n removed put)
      | inr stays ↦ (stays.0, λ was. each_of (λ (c : Change Element). key_at n ≢ c.key) (map take_of removed) stays.1 (take_of n) (in_mapped take_of removed n was) refl)
    ]),
    (λ (is, isnt). (changed_holds key_at objects (map take_of removed) (set_rises objects set) takes n).1 (inr (
      is,
      all_of_each (λ (c : Change Element). key_at n ≢ c.key) (map take_of removed) (λ c of same.
          let found = from_mapped take_of removed c of in
          let was = from_list objects found.0 (there found.0 (in_list removed found.0 found.1)) in
          isnt (subst (λ (k : Element). IsIn k removed) (sym (one_with_key key_at None objects (set_rises objects set) n found.0 is was (same ∙ ap (λ (d : Change Element). d.key) found.2))) found.1)),
    ))),
  )

  put_from : (n : Element) → IsPut key_at (map put_at puts) n → IsIn n puts
  put_from n is =
      let by = put_by key_at (map put_at puts) n is in
      let found = from_mapped put_at puts by.0 by.1 in
      elim (subst (λ (c : Change Element). IsIn n (one_or_none c.put)) found.2 by.2) [ inl first ↦ subst (λ (k : Element). IsIn k puts) (sym first) found.1 | inr never ↦ absurd never ]

  one_reference : (n o : Element) → IsElement n → IsElement o → key_at n ≡ key_at o → reference n ≡ reference o
  one_reference n o is is_too same = same_ref (reference n) (reference o) is.in_range is_too.in_range same

  pub changed_set_holds : (n : Element) → IsIn n changed_set ↔ (IsIn n puts ⊎ (IsIn n objects × ¬ IsIn n removed))
  changed_set_holds n = (
    (λ is. elim ((changed_holds key_at rest (map put_at puts) rest_rises puttings n).0 is) [
      | inl put ↦ inl (put_from n put)
      | inr stays ↦ inr ((rest_holds n).0 stays.0)
    ]),
    (λ is. elim is [
      | inl put ↦ (changed_holds key_at rest (map put_at puts) rest_rises puttings n).1 (inl (puts_by key_at (map put_at puts) n (put_at n) (in_mapped put_at puts n put) (inl refl)))
      | inr (was, isnt) ↦ (changed_holds key_at rest (map put_at puts) rest_rises puttings n).1 (inr (
        (rest_holds n).1 (was, isnt),
        all_of_each (λ (c : Change Element). key_at n ≢ c.key) (map put_at puts) (λ c of same.
            let found = from_mapped put_at puts c of in
            let put = in_list puts found.0 found.1 in
            let here = in_list objects n was in
            let one = one_reference n found.0 (is_element objects n set here) (is_element puts found.0 new put) (same ∙ ap (λ (d : Change Element). d.key) found.2) in
            isnt (from_list removed n (apart found.0 n put here one))),
      ))
    ]),
  )

  pub is_changed_set : IsChangedSet objects removed puts changed_set
  is_changed_set = record {
    set = set_of changed_set (λ n is. elim ((changed_set_holds n).0 is) [ inl put ↦ is_element puts n new (in_list puts n put) | inr stays ↦ is_element objects n set (in_list objects n stays.0) ])
        (changed_rises key_at rest (map put_at puts) rest_rises puttings);
    there = there;
    apart = apart;
    members = λ n. (
      (λ h. elim ((changed_set_holds n).0 (from_list changed_set n h)) [
        | inl put ↦ inl (in_list puts n put)
        | inr (was, isnt) ↦ inr (in_list objects n was, λ old_too. isnt (from_list removed n old_too))
      ]),
      (λ h. in_list changed_set n ((changed_set_holds n).1 (elim h [
        | inl put ↦ inl (from_list puts n put)
        | inr (was, isnt) ↦ inr (from_list objects n was, λ old_too. isnt (in_list removed n old_too))
      ]))),
    );
  }
