-- What a list of entries holds after the changes that turn some of its entries into others.
use Rattle.std.proofs.Common.{◌≡◌, ◌≢◌, ◌↔◌, ◌⊎◌, inl, inr, ℕ, ◌+◌, ◌-◌, ◌<◌, ◌≤◌, List, [], ◌∷◌, length, map, Option, Some, None, refl, sym, ap, subst, ◌∙◌, arith}
use Rattle.std.specs.List.{AllByRecursion, Contains}
use Rattle.osm_model.specs.Elements.{Element}
use Rattle.osm_model.specs.Sets.{IsObjectSet}
use Rattle.tree_build.specs.Changing.{Change, changed, one_or_none}
use Rattle.tree_build.specs.Rebuilding.{changed_entries, keys_of_changes}
use Rattle.tree_build.specs.internal.RisingChanges.{AreOwnAndRising, IsOwn}
use Rattle.tree_build.specs.internal.Weaving.{IsIn}
use Rattle.tree_build.proofs.ChangedLaw.{IsPut, changed_holds}
use Rattle.tree_build.proofs.DifferChanges.{changed_rises}
use Rattle.tree_build.proofs.WeaveLemmas.{above_low}
use Rattle.tree_node.specs.Nodes.{AreRisingFrom, Binding, keys_of}
use Rattle.tree_node.specs.Order.{IsBelow}
use Rattle.tree_node.specs.declared.limits.TheConstants.{ENTRY_LIMIT}
use Rattle.tree_node.specs.declared.tree.Tree.{Tree}
use Rattle.osm_keys.proofs.shared.OnePublication.{whole_lists}
use Rattle.osm_keys.specs.Entries.{AreEntriesOf, IsEntryOfSome}
use Rattle.osm_keys.specs.Grains.{Whole}
use Rattle.osm_keys.specs.Publications.{HasTooMany, Publication}
use Rattle.osm_index.specs.internal.ChangedTrees.{HoldsChanging, IsChangedSet}
use Rattle.osm_index.specs.internal.EntryChanges.{PutsNew, TakesOld, TurnEntries, put_of, taken}
use Rattle.osm_index.specs.EntryLists.{IsKeyed}
use Rattle.osm_index.proofs.EntryTurns.{turns}
use Rattle.osm_index.proofs.TurnLemmas.{turns_turn}
use Rattle.osm_index.proofs.ItemLemmas.{all_of_each, count_parts, each_of, from_list, from_mapped, in_list, in_mapped, in_or_not, one_with_key, with_key_or_not}
use Rattle.osm_index.proofs.OneOwner.{one_owner}
use Rattle.osm_keys.proofs.shared.OneObject.{is_element, one_object}

abbrev pub key_in : Binding → List ℕ
key_in b = b.key

abbrev pub Rise : List Binding → Type 0
Rise bs = AreRisingFrom None (keys_of bs)

-- ---- what some change puts, and what no change has

module _ {X : Type 0} (key : X → List ℕ) where
  pub put_by : (cs : List (Change X)) (n : X) → IsPut key cs n → (c : Change X) × IsIn c cs × IsIn n (one_or_none c.put)
  put_by [] n is = absurd is
  put_by (c ∷ cs) n is = elim is [ inl first ↦ (c, inl refl, first) | inr later ↦ let found = put_by cs n later in (found.0, inr found.1, found.2) ]

  pub puts_by : (cs : List (Change X)) (n : X) (c : Change X) → IsIn c cs → IsIn n (one_or_none c.put) → IsPut key cs n
  puts_by [] n c is puts = absurd is
  puts_by (d ∷ cs) n c is puts = elim is [ inl first ↦ inl (subst (λ (e : Change X). IsIn n (one_or_none e.put)) first puts) | inr later ↦ inr (puts_by cs n c later puts) ]

  -- changes that rise, and that put items under their own keys
  pub own_and_rising : (low : Option (List ℕ)) (cs : List (Change X)) → AreRisingFrom low (map (λ (c : Change X). c.key) cs) → AllByRecursion (IsOwn key) cs → AreOwnAndRising key cs
  own_and_rising low [] rise own = tt
  own_and_rising low (c ∷ cs) rise own =
      (own.0, all_of_each (λ (d : Change X). IsBelow c.key d.key) cs (λ d is. above_low (λ (e : Change X). e.key) c.key cs rise.1 d is), own_and_rising (Some c.key) cs rise.1 own.1)

-- ---- entries that are turned into others

-- these entries are among those, and where one of those has the key of a new one it is among these
pub record AreTurned (xs a b : List Binding) : Type 0 where
  pub all : Rise xs
  pub old : Rise a
  pub new : Rise b
  pub within : (n : Binding) → IsIn n a → IsIn n xs
  pub apart : (m n : Binding) → IsIn m b → IsIn n xs → n.key ≡ m.key → IsIn n a

module _ (xs a b : List Binding) (are : AreTurned xs a b) (cs : List (Change Binding)) (turn : TurnEntries a b cs) where
  own : AllByRecursion (IsOwn key_in) cs
  own = all_of_each (IsOwn key_in) cs (λ c is. elim ((turn.members c).0 is) [
    | inl (n, there, isnt, e) ↦ subst (IsOwn key_in) (sym e) refl
    | inr (n, there, nowhere, e) ↦ subst (IsOwn key_in) (sym e) tt
  ])

  pub turned_own : AreOwnAndRising key_in cs
  turned_own = own_and_rising key_in None cs turn.rising own

  pub turned_rise : Rise (changed_entries xs cs)
  turned_rise = changed_rises key_in xs cs are.all turned_own

  put_new : (n : Binding) (c : Change Binding) → IsIn n (one_or_none c.put) → PutsNew a b c ⊎ TakesOld a b c → IsIn n b
  put_new n c is (inl (m, there, isnt, e)) = elim (subst (λ (d : Change Binding). IsIn n (one_or_none d.put)) e is) [ inl first ↦ subst (λ (k : Binding). IsIn k b) (sym first) there | inr never ↦ absurd never ]
  put_new n c is (inr (m, there, nowhere, e)) = absurd (subst (λ (d : Change Binding). IsIn n (one_or_none d.put)) e is)

  -- what stays of the list, or is put
  to_turned : (n : Binding) → IsIn n b ⊎ (IsIn n xs × ¬ IsIn n a) → IsIn n (changed_entries xs cs)
  to_turned n (inl is) = elim (in_or_not n a) [
    | inl old ↦ (changed_holds key_in xs cs are.all turned_own n).1 (inr (
      are.within n old,
      all_of_each (λ (c : Change Binding). n.key ≢ c.key) cs (λ c of same. elim ((turn.members c).0 of) [
        | inl (m, there, isnt, e) ↦ isnt (subst (λ (k : Binding). IsIn k a) (one_with_key key_in None b are.new n m is there (same ∙ ap (λ (d : Change Binding). d.key) e)) old)
        | inr (m, there, nowhere, e) ↦ nowhere n is (same ∙ ap (λ (d : Change Binding). d.key) e)
      ]),
    ))
    | inr new ↦ (changed_holds key_in xs cs are.all turned_own n).1 (inl (puts_by key_in cs n (put_of n) ((turn.members (put_of n)).1 (inl (n, is, new, refl))) (inl refl)))
  ]
  to_turned n (inr (is, isnt)) = (changed_holds key_in xs cs are.all turned_own n).1 (inr (
    is,
    all_of_each (λ (c : Change Binding). n.key ≢ c.key) cs (λ c of same. elim ((turn.members c).0 of) [
      | inl (m, there, new, e) ↦ isnt (are.apart m n there is (same ∙ ap (λ (d : Change Binding). d.key) e))
      | inr (m, there, nowhere, e) ↦ isnt (subst (λ (k : Binding). IsIn k a) (sym (one_with_key key_in None xs are.all n m is (are.within m there) (same ∙ ap (λ (d : Change Binding). d.key) e))) there)
    ]),
  ))

  from_turned : (n : Binding) → IsIn n (changed_entries xs cs) → IsIn n b ⊎ (IsIn n xs × ¬ IsIn n a)
  from_turned n is = elim ((changed_holds key_in xs cs are.all turned_own n).0 is) [
    | inl put ↦ let by = put_by key_in cs n put in inl (put_new n by.0 by.2 ((turn.members by.0).0 by.1))
    | inr stays ↦ elim (in_or_not n a) [
      | inr isnt ↦ inr (stays.0, isnt)
      | inl old ↦
          let free = each_of (λ (c : Change Binding). n.key ≢ c.key) cs stays.1 in
          elim (with_key_or_not n.key b) [
            | inr nowhere ↦ absurd (free (taken n) ((turn.members (taken n)).1 (inr (n, old, nowhere, refl))) refl)
            | inl (m, there, same) ↦ elim (in_or_not m a) [
              | inl both ↦ inl (subst (λ (k : Binding). IsIn k b) (one_with_key key_in None a are.old m n both old same) there)
              | inr new ↦ absurd (free (put_of m) ((turn.members (put_of m)).1 (inl (m, there, new, refl))) (sym same))
            ]
          ]
    ]
  ]

  pub turned_holds : (n : Binding) → IsIn n (changed_entries xs cs) ↔ (IsIn n b ⊎ (IsIn n xs × ¬ IsIn n a))
  turned_holds n = (from_turned n, to_turned n)

-- ---- how many they are

takes : List Binding → List (Change Binding)
takes a = map taken a

module _ (xs a : List Binding) (all : Rise xs) (old : Rise a) (within : (n : Binding) → IsIn n a → IsIn n xs) where
  takes_rise : (low : Option (List ℕ)) (bs : List Binding) → AreRisingFrom low (keys_of bs) → AreRisingFrom low (keys_of_changes (map taken bs))
  takes_rise low [] rise = tt
  takes_rise low (b ∷ bs) rise = (rise.0, takes_rise (Some b.key) bs rise.1)

  takes_own : (bs : List Binding) → AllByRecursion (IsOwn key_in) (map taken bs)
  takes_own [] = tt
  takes_own (b ∷ bs) = (tt, takes_own bs)

  take_all_own : AreOwnAndRising key_in (map taken a)
  take_all_own = own_and_rising key_in None (map taken a) (takes_rise None a old) (takes_own a)

  -- those that are left
  abbrev pub left : List Binding
  left = changed key_in xs (map taken a)

  pub left_rises : Rise left
  left_rises = changed_rises key_in xs (map taken a) all take_all_own

  none_put : (n : Binding) (bs : List Binding) → ¬ IsPut key_in (map taken bs) n
  none_put n [] is = is
  none_put n (b ∷ bs) is = elim is [ inl first ↦ first | inr later ↦ none_put n bs later ]

  pub left_holds : (n : Binding) → IsIn n left ↔ (IsIn n xs × ¬ IsIn n a)
  left_holds n = (
    (λ is. elim ((changed_holds key_in xs (map taken a) all take_all_own n).0 is) [
      | inl put ↦ absurd (none_put n a put)
      | inr stays ↦ (stays.0, λ old_too. each_of (λ (c : Change Binding). n.key ≢ c.key) (map taken a) stays.1 (taken n) (in_mapped taken a n old_too) refl)
    ]),
    (λ (is, isnt). (changed_holds key_in xs (map taken a) all take_all_own n).1 (inr (
      is,
      all_of_each (λ (c : Change Binding). n.key ≢ c.key) (map taken a) (λ c of same.
          let found = from_mapped taken a c of in
          isnt (subst (λ (k : Binding). IsIn k a) (sym (one_with_key key_in None xs all n found.0 is (within found.0 found.1) (same ∙ ap (λ (d : Change Binding). d.key) found.2))) found.1)),
    ))),
  )

  pub count_left : length xs ≡ length a + length left
  count_left =
      count_parts key_in None xs all a left old left_rises (λ n is. elim (in_or_not n a) [ inl old_too ↦ inl old_too | inr isnt ↦ inr ((left_holds n).1 (is, isnt)) ]) within (λ n is. ((left_holds n).0 is).0) (λ n is is_too. ((left_holds n).0 is_too).1 is)

pub count_turned : (xs a b : List Binding) → AreTurned xs a b → (cs : List (Change Binding)) → TurnEntries a b cs → length (changed_entries xs cs) + length a ≡ length xs + length b
count_turned xs a b are cs turn =
    let rest = left xs a are.all are.old are.within in
    let holds = left_holds xs a are.all are.old are.within in
    let before : length xs ≡ length a + length rest = count_left xs a are.all are.old are.within in
    let after : length (changed_entries xs cs) ≡ length b + length rest =
    count_parts key_in None (changed_entries xs cs) (turned_rise xs a b are cs turn) b rest are.new (left_rises xs a are.all are.old are.within)
    (λ n is. elim ((turned_holds xs a b are cs turn n).0 is) [ inl new ↦ inl new | inr stays ↦ inr ((holds n).1 stays) ])
    (λ n is. (turned_holds xs a b are cs turn n).1 (inl is))
    (λ n is. (turned_holds xs a b are cs turn n).1 (inr ((holds n).0 is)))
    (λ n is is_too. let stays = (holds n).0 is_too in stays.1 (are.apart n n is stays.0 refl)) in
    omega arith

-- ---- the entries of a changed set

module _ (objects removed puts set : List Element) (is_set : IsObjectSet objects) (changed_set : IsChangedSet objects removed puts set) (tree : Tree) (xs a b : List Binding)
    (are : AreEntriesOf Whole objects tree xs) (old : AreEntriesOf Whole removed tree a) (new : AreEntriesOf Whole puts tree b) where
  pub are_turned : AreTurned xs a b
  are_turned = record {
    all = are.rising;
    old = old.rising;
    new = new.rising;
    within = λ n is. let (o, there, e) = (old.members n).0 (in_list a n is) in from_list xs n ((are.members n).1 (o, changed_set.there o there, e));
    apart = λ m n is is_too same.
        let (o, there, e) = (new.members m).0 (in_list b m is) in
        let (x, there_too, e_too) = (are.members n).0 (in_list xs n is_too) in
        let in_new = is_element set o changed_set.set ((changed_set.members o).1 (inl there)) in
        let owner = one_owner tree x o (is_element objects x is_set there_too) in_new n m e_too e same in
        from_list a n ((old.members n).1 (x, changed_set.apart o x there there_too owner, e_too));
  }

  pub changed_set_entries : (cs : List (Change Binding)) → TurnEntries a b cs → AreEntriesOf Whole set tree (changed_entries xs cs)
  changed_set_entries cs turn = record {
    rising = turned_rise xs a b are_turned cs turn;
    members = λ n. (
      (λ h. elim ((turned_holds xs a b are_turned cs turn n).0 (from_list (changed_entries xs cs) n h)) [
        | inl is ↦ let (o, there, e) = (new.members n).0 (in_list b n is) in (o, (changed_set.members o).1 (inl there), e)
        | inr (is, isnt) ↦
            let (o, there, e) = (are.members n).0 (in_list xs n is) in
            (o, (changed_set.members o).1 (inr (there, λ old_too. isnt (from_list a n ((old.members n).1 (o, old_too, e))))), e)
      ]),
      (λ (o, there, e). in_list (changed_entries xs cs) n ((turned_holds xs a b are_turned cs turn n).1 (elim ((changed_set.members o).0 there) [
        | inl put ↦ inl (from_list b n ((new.members n).1 (o, put, e)))
        | inr (stays, isnt) ↦ inr (
          from_list xs n ((are.members n).1 (o, stays, e)),
          λ is.
              let (x, old_too, e_too) = (old.members n).0 (in_list a n is) in
              let there_too = changed_set.there x old_too in
              let owner = one_owner tree x o (is_element objects x is_set there_too) (is_element objects o is_set stays) n n e_too e refl in
              isnt (subst (λ (y : Element). Contains removed y) (one_object objects x o is_set there_too stays owner) old_too),
        )
      ]))),
    );
  }

-- ---- entries that were sorted

pub sorted_are : (objects : List Element) (tree : Tree) (list entries : List Binding) → ((b : Binding) → Contains list b ↔ IsEntryOfSome Whole objects tree b) → IsKeyed list → Rise entries
    → (IsKeyed list → (b : Binding) → Contains entries b ↔ Contains list b) → AreEntriesOf Whole objects tree entries
sorted_are objects tree list entries members keyed rising sorted = record {
  rising = rising;
  members = λ b. let x = sorted keyed b in let y = members b in ((λ h. y.0 (x.0 h)), (λ h. x.1 (y.1 h)));
}

module _ (p : Publication) (removed puts set : List Element) (tree : Tree) (top : List ℕ) (held : List ℕ → Type 0) (h : HoldsChanging p removed puts set tree top held)
    (a b : List Binding) (old : AreEntriesOf Whole removed tree a) (new : AreEntriesOf Whole puts tree b) where
  turned : AreTurned (p.entries tree) a b
  turned = are_turned p.objects removed puts set h.holds.published.set h.changed_set tree (p.entries tree) a b (whole_lists p h.holds.published tree) old new

  -- the old ones are some of all
  pub turned_few : length a ≤ length (p.entries tree)
  turned_few =
      let count : length (p.entries tree) ≡ length a + length (left (p.entries tree) a turned.all turned.old turned.within) = count_left (p.entries tree) a turned.all turned.old turned.within in
      omega arith

  pub all_few : length (p.entries tree) ≤ ENTRY_LIMIT
  all_few = h.holds.published.few tree

  pub turned_count : (cs : List (Change Binding)) → TurnEntries a b cs → length (changed_entries (p.entries tree) cs) + length a ≡ length (p.entries tree) + length b
  turned_count cs turn = count_turned (p.entries tree) a b turned cs turn

  pub turned_are : (cs : List (Change Binding)) → TurnEntries a b cs → AreEntriesOf Whole set tree (changed_entries (p.entries tree) cs)
  turned_are cs turn = changed_set_entries p.objects removed puts set h.holds.published.set h.changed_set tree (p.entries tree) a b (whole_lists p h.holds.published tree) old new cs turn

  pub turned_many : ENTRY_LIMIT < (length (p.entries tree) - length a) + length b → HasTooMany set
  turned_many many =
      let cs = turns a b in
      let turn = turns_turn a b old.rising new.rising in
      let count : length (changed_entries (p.entries tree) cs) + length a ≡ length (p.entries tree) + length b = turned_count cs turn in
      (tree, changed_entries (p.entries tree) cs, turned_are cs turn, omega (arith, many, turned_few))
