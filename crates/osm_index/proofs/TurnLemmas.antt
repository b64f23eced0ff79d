-- The changes that are found one old entry after the other are those that turn the old entries into the new ones.
use Rattle.std.proofs.Common.{◌≡◌, ◌⊎◌, inl, inr, ℕ, Bool, true, false, cond, List, [], ◌∷◌, ◌++◌, map, Option, Some, None, refl, sym, ap, subst, ◌∙◌}
use Rattle.std.proofs.lemmas.Slice.Eq.{bytes_eq-Decides}
use Rattle.std.specs.Prelude.{IfSome, bytes_eq}
use Rattle.std.specs.declared.cmp.Ordering.{Ordering}
use Rattle.std.specs.declared.cmp.Ordering.TheVariants.{Less, Equal, Greater}
use Rattle.tree_build.specs.Changing.{Change, by_order}
use Rattle.tree_build.specs.Rebuilding.{keys_of_changes}
use Rattle.tree_build.specs.internal.Weaving.{IsIn}
use Rattle.tree_build.proofs.WeaveLemmas.{above_low}
use Rattle.tree_node.specs.Nodes.{AreRisingFrom, Binding, keys_of}
use Rattle.tree_node.specs.Order.{IsBelow, order}
use Rattle.tree_node.specs.internal.OrderLemmas.{not_itself, order_above, order_same, order_trans}
use Rattle.osm_index.specs.internal.EntryChanges.{PutsNew, TakesOld, TurnEntries, change_between, parts_at_key, put_of, taken}
use Rattle.osm_index.proofs.EntryTurns.{after_key, turns}
use Rattle.osm_index.proofs.ItemLemmas.{from_lower, from_mapped, in_either, in_first, in_mapped, in_second, same_binding}

abbrev key_in : Binding → List ℕ
key_in b = b.key

abbrev Rise : Option (List ℕ) → List Binding → Type 0
Rise low bs = AreRisingFrom low (keys_of bs)

-- ---- the new entries below a key, with it and above it

module _ (key : List ℕ) where
  abbrev Below : List Binding → List Binding
  Below bs = (parts_at_key key bs).0

  abbrev Same : List Binding → Option Binding
  Same bs = (parts_at_key key bs).1

  abbrev Parts : Type 0
  Parts = List Binding × Option Binding

  -- one part or the other holds an entry
  abbrev IsInParts : Parts → List Binding → Binding → Type 0
  IsInParts parts after n = IsIn n parts.0 ⊎ ((parts.1 ≡ Some n) ⊎ IsIn n after)

  abbrev chosen : Ordering → Binding → List Binding → Parts
  chosen o b bs = by_order {A = Parts} o ([], None) ([], Some b) (b ∷ Below bs, Same bs)

  abbrev left_by : Ordering → Binding → List Binding → List Binding
  left_by o b bs = by_order o (b ∷ bs) bs (after_key key bs)

  pub in_parts : (bs : List Binding) (n : Binding) → IsIn n bs → IsInParts (parts_at_key key bs) (after_key key bs) n
  in_parts [] n is = absurd is
  in_parts (b ∷ bs) n is = by (order key b.key) (in_parts bs n)
    where
      by : (o : Ordering) → (IsIn n bs → IsInParts (parts_at_key key bs) (after_key key bs) n) → IsInParts (chosen o b bs) (left_by o b bs) n
      by Less rest = inr (inr is)
      by Equal rest = elim is [ inl first ↦ inr (inl (ap (λ (c : Binding). Some c) (sym first))) | inr later ↦ inr (inr later) ]
      by Greater rest = elim is [
        | inl first ↦ inl (inl first)
        | inr later ↦ elim (rest later) [ inl below ↦ inl (inr below) | inr others ↦ inr others ]
      ]

  pub from_below : (bs : List Binding) (n : Binding) → IsIn n (Below bs) → IsIn n bs × IsBelow n.key key
  from_below [] n is = absurd is
  from_below (b ∷ bs) n is = by (order key b.key) refl (from_below bs n) is
    where
      by : (o : Ordering) → order key b.key ≡ o → (IsIn n (Below bs) → IsIn n bs × IsBelow n.key key) → IsIn n (chosen o b bs).0 → IsIn n (b ∷ bs) × IsBelow n.key key
      by Less e rest here = absurd here
      by Equal e rest here = absurd here
      by Greater e rest here = elim here [
        | inl first ↦ (inl first, subst (λ (c : Binding). IsBelow c.key key) (sym first) (order_above key b.key e))
        | inr later ↦ let found = rest later in (inr found.0, found.1)
      ]

  pub from_same : (bs : List Binding) (n : Binding) → Same bs ≡ Some n → IsIn n bs × (n.key ≡ key)
  from_same [] n is = absurd Prim.cc
  from_same (b ∷ bs) n is = by (order key b.key) refl (from_same bs n) is
    where
      by : (o : Ordering) → order key b.key ≡ o → (Same bs ≡ Some n → IsIn n bs × (n.key ≡ key)) → (chosen o b bs).1 ≡ Some n → IsIn n (b ∷ bs) × (n.key ≡ key)
      by Less e rest here = absurd Prim.cc
      by Equal e rest here = let one : n ≡ b = Prim.cc in (inl one, ap key_in one ∙ sym (order_same key b.key e))
      by Greater e rest here = let found = rest here in (inr found.0, found.1)

  pub from_after : (low : Option (List ℕ)) (bs : List Binding) → Rise low bs → (n : Binding) → IsIn n (after_key key bs) → IsIn n bs × IsBelow key n.key
  from_after low [] rise n is = absurd is
  from_after low (b ∷ bs) rise n is = by (order key b.key) refl (from_after (Some b.key) bs rise.1 n) is
    where
      by : (o : Ordering) → order key b.key ≡ o → (IsIn n (after_key key bs) → IsIn n bs × IsBelow key n.key) → IsIn n (left_by o b bs) → IsIn n (b ∷ bs) × IsBelow key n.key
      by Less e rest here = (here, above_low key_in key (b ∷ bs) (e, rise.1) n here)
      by Equal e rest here = (inr here, subst (λ (k : List ℕ). IsBelow k n.key) (sym (order_same key b.key e)) (above_low key_in b.key bs rise.1 n here))
      by Greater e rest here = let found = rest here in (inr found.0, found.1)

  pub after_rises : (low : Option (List ℕ)) (bs : List Binding) → Rise low bs → Rise (Some key) (after_key key bs)
  after_rises low [] rise = tt
  after_rises low (b ∷ bs) rise = by (order key b.key) refl (after_rises (Some b.key) bs rise.1)
    where
      by : (o : Ordering) → order key b.key ≡ o → Rise (Some key) (after_key key bs) → Rise (Some key) (left_by o b bs)
      by Less e rest = (e, rise.1)
      by Equal e rest = subst (λ (k : List ℕ). Rise (Some k) bs) (sym (order_same key b.key e)) rise.1
      by Greater e rest = rest

  pub below_rises : (low : Option (List ℕ)) (bs : List Binding) → Rise low bs → Rise low (Below bs)
  below_rises low [] rise = tt
  below_rises low (b ∷ bs) rise = by (order key b.key) (below_rises (Some b.key) bs rise.1)
    where
      by : (o : Ordering) → Rise (Some b.key) (Below bs) → Rise low (chosen o b bs).0
      by Less rest = tt
      by Equal rest = tt
      by Greater rest = (rise.0, rest)

-- ---- the changes rise

abbrev key_put : Change Binding → List ℕ
key_put c = c.key

abbrev RiseChanges : Option (List ℕ) → List (Change Binding) → Type 0
RiseChanges low cs = AreRisingFrom low (keys_of_changes cs)

puts_rise : (low : Option (List ℕ)) (bs : List Binding) → Rise low bs → RiseChanges low (map put_of bs)
puts_rise low [] rise = tt
puts_rise low (b ∷ bs) rise = (rise.0, puts_rise (Some b.key) bs rise.1)

-- entries below a key are put, and then come changes that rise from any lower key
puts_then : (low : Option (List ℕ)) (bs : List Binding) (key : List ℕ) (cs : List (Change Binding)) → Rise low bs → ((n : Binding) → IsIn n bs → IsBelow n.key key) → IfSome low (λ l. IsBelow l key)
    → ((l : Option (List ℕ)) → IfSome l (λ k. IsBelow k key) → RiseChanges l cs) → RiseChanges low (map put_of bs ++ cs)
puts_then low [] key cs rise below under rest = rest low under
puts_then low (b ∷ bs) key cs rise below under rest = (rise.0, puts_then (Some b.key) bs key cs rise.1 (λ n is. below n (inr is)) (below b (inl refl)) rest)

between_then : (o : Binding) (same : Option Binding) (cs : List (Change Binding)) → IfSome same (λ n. n.key ≡ o.key) → RiseChanges (Some o.key) cs
    → (low : Option (List ℕ)) → IfSome low (λ l. IsBelow l o.key) → RiseChanges low (change_between o same ++ cs)
between_then o None cs is rise low under = (under, rise)
between_then o (Some n) cs is rise low under = by (bytes_eq n.value o.value)
  where
    by : (b : Bool) → RiseChanges low (cond b [] (put_of n ∷ []) ++ cs)
    by true = from_lower key_put low o.key cs under rise
    by false = (subst (λ (k : List ℕ). IfSome low (λ l. IsBelow l k)) (sym is) under, subst (λ (k : List ℕ). RiseChanges (Some k) cs) (sym is) rise)

same_key : (key : List ℕ) (bs : List Binding) (same : Option Binding) → (parts_at_key key bs).1 ≡ same → IfSome same (λ n. n.key ≡ key)
same_key key bs None e = tt
same_key key bs (Some n) e = (from_same key bs n e).1

pub turns_rise : (low : Option (List ℕ)) (old new : List Binding) → Rise low old → Rise low new → RiseChanges low (turns old new)
turns_rise low [] new up more = puts_rise low new more
turns_rise low (o ∷ old) new up more =
    puts_then low (Below o.key new) o.key (change_between o (Same o.key new) ++ turns old (after_key o.key new)) (below_rises o.key low new more) (λ n is. (from_below o.key new n is).1) up.0
    (between_then o (Same o.key new) (turns old (after_key o.key new)) (same_key o.key new (Same o.key new) refl) (turns_rise (Some o.key) old (after_key o.key new) up.1 (after_rises o.key low new more)))

-- ---- they are those

-- the change puts a new entry, or takes an old one
abbrev IsTurn : List Binding → List Binding → Change Binding → Type 0
IsTurn old new change = PutsNew old new change ⊎ TakesOld old new change

module _ (o : Binding) (old new : List Binding) (low : Option (List ℕ)) (up : Rise low (o ∷ old)) (more : Rise low new) where
  -- an entry below the first old one is no old one
  below_none : (n : Binding) → IsBelow n.key o.key → ¬ IsIn n (o ∷ old)
  below_none n below is = elim is [
    | inl first ↦ not_itself n.key o.key below (ap key_in first)
    | inr later ↦ not_itself n.key n.key (order_trans n.key o.key n.key below (above_low key_in o.key old up.1 n later)) refl
  ]

  from_between : (same : Option Binding) → Same o.key new ≡ same → (change : Change Binding) → IsIn change (change_between o same) → IsTurn (o ∷ old) new change
  from_between None e change is = elim is [
    | inl first ↦ inr (
      o,
      inl refl,
      (λ n there equal. elim (in_parts o.key new n there) [
        | inl below ↦ not_itself n.key o.key (from_below o.key new n below).1 equal
        | inr others ↦ elim others [
          | inl same ↦ (let both : None ≡ Some n = sym e ∙ same in Prim.cc)
          | inr after ↦ not_itself o.key n.key (from_after o.key low new more n after).1 (sym equal)
        ]
      ]),
      first,
    )
    | inr never ↦ absurd never
  ]
  from_between (Some n) e change is = by (bytes_eq n.value o.value) refl is
    where
      found : IsIn n new × (n.key ≡ o.key)
      found = from_same o.key new n e

      by : (b : Bool) → bytes_eq n.value o.value ≡ b → IsIn change (cond b [] (put_of n ∷ [])) → IsTurn (o ∷ old) new change
      by true t here = absurd here
      by false t here = elim here [
        | inl first ↦ inl (
          n,
          found.0,
          (λ is. elim is [
            | inl same ↦ (let equal : bytes_eq n.value o.value ≡ true = (bytes_eq-Decides n.value o.value).1 (ap (λ (c : Binding). c.value) same) in Prim.cc)
            | inr later ↦ not_itself o.key n.key (above_low key_in o.key old up.1 n later) (sym found.1)
          ]),
          first,
        )
        | inr never ↦ absurd never
      ]

  from_rest : (change : Change Binding) → IsTurn old (after_key o.key new) change → IsTurn (o ∷ old) new change
  from_rest change (inl (n, is, isnt, e)) =
      let found = from_after o.key low new more n is in
      inl (n, found.0, (λ there. elim there [ inl first ↦ not_itself o.key n.key found.1 (ap key_in (sym first)) | inr later ↦ isnt later ]), e)
  from_rest change (inr (n, is, nowhere, e)) =
      let above = above_low key_in o.key old up.1 n is in
      inr (
        n,
        inr is,
        (λ m there equal. elim (in_parts o.key new m there) [
          | inl below ↦ not_itself m.key n.key (order_trans m.key o.key n.key (from_below o.key new m below).1 above) equal
          | inr others ↦ elim others [
            | inl same ↦ not_itself o.key n.key above (sym (from_same o.key new m same).1 ∙ equal)
            | inr after ↦ nowhere m after equal
          ]
        ]),
        e,
      )

  to_between : (same : Option Binding) → Same o.key new ≡ same → (change : Change Binding) → IsTurn (o ∷ old) new change
      → IsIn change (map put_of (Below o.key new) ++ (change_between o same ++ turns old (after_key o.key new)))
      ⊎ IsTurn old (after_key o.key new) change
  to_between same e change (inl (n, is, isnt, f)) = elim (in_parts o.key new n is) [
    | inl below ↦ inl (in_first change (map put_of (Below o.key new)) _ (subst (λ (c : Change Binding). IsIn c (map put_of (Below o.key new))) (sym f) (in_mapped put_of (Below o.key new) n below)))
    | inr others ↦ elim others [
      | inl is_same ↦ inl (in_second change (map put_of (Below o.key new)) _ (in_first change (change_between o same) _ (replaced same (sym e ∙ is_same) is_same)))
      | inr after ↦ inr (inl (n, after, (λ later. isnt (inr later)), f))
    ]
  ]
    where
      replaced : (s : Option Binding) → s ≡ Some n → Same o.key new ≡ Some n → IsIn change (change_between o s)
      replaced None g there = absurd Prim.cc
      replaced (Some m) g there = by (bytes_eq m.value o.value) refl
        where
          one : m ≡ n
          one = Prim.cc

          by : (b : Bool) → bytes_eq m.value o.value ≡ b → IsIn change (cond b [] (put_of m ∷ []))
          by true t = absurd (isnt (inl (sym one ∙ same_binding m o (ap key_in one ∙ (from_same o.key new n there).1) ((bytes_eq-Decides m.value o.value).0 t))))
          by false t = inl (f ∙ ap put_of (sym one))
  to_between same e change (inr (n, is, nowhere, f)) = elim is [
    | inl first ↦ inl (in_second change (map put_of (Below o.key new)) _ (in_first change (change_between o same) _ (gone same e first)))
    | inr later ↦ inr (inr (n, later, (λ m there. nowhere m (from_after o.key low new more m there).0), f))
  ]
    where
      gone : (s : Option Binding) → Same o.key new ≡ s → n ≡ o → IsIn change (change_between o s)
      gone None g first = inl (f ∙ ap taken first)
      gone (Some m) g first = absurd (let found = from_same o.key new m g in nowhere m found.0 (found.1 ∙ ap key_in (sym first)))

pub turn_is : (low : Option (List ℕ)) (old new : List Binding) → Rise low old → Rise low new → (change : Change Binding) → IsIn change (turns old new) → IsTurn old new change
turn_is low [] new up more change is = let found = from_mapped put_of new change is in inl (found.0, found.1, (λ never. never), found.2)
turn_is low (o ∷ old) new up more change is =
    elim (in_either change (map put_of (Below o.key new)) (change_between o (Same o.key new) ++ turns old (after_key o.key new)) is) [
      | inl put ↦
          let found = from_mapped put_of (Below o.key new) change put in
          let there = from_below o.key new found.0 found.1 in
          inl (found.0, there.0, below_none o old new low up more found.0 there.1, found.2)
      | inr others ↦ elim (in_either change (change_between o (Same o.key new)) (turns old (after_key o.key new)) others) [
        | inl between ↦ from_between o old new low up more (Same o.key new) refl change between
        | inr rest ↦ from_rest o old new low up more change (turn_is (Some o.key) old (after_key o.key new) up.1 (after_rises o.key low new more) change rest)
      ]
    ]

pub is_turn : (low : Option (List ℕ)) (old new : List Binding) → Rise low old → Rise low new → (change : Change Binding) → IsTurn old new change → IsIn change (turns old new)
is_turn low [] new up more change (inl (n, is, isnt, e)) = subst (λ (c : Change Binding). IsIn c (map put_of new)) (sym e) (in_mapped put_of new n is)
is_turn low [] new up more change (inr (n, is, nowhere, e)) = absurd is
is_turn low (o ∷ old) new up more change turn =
    elim (to_between o old new low up more (Same o.key new) refl change turn) [
      | inl here ↦ here
      | inr rest ↦ in_second change (map put_of (Below o.key new)) _ (in_second change (change_between o (Same o.key new)) _ (is_turn (Some o.key) old (after_key o.key new) up.1 (after_rises o.key low new more) change rest))
    ]

pub turns_turn : (old new : List Binding) → Rise None old → Rise None new → TurnEntries old new (turns old new)
turns_turn old new up more = record { rising = turns_rise None old new up more; members = λ change. (turn_is None old new up more change, is_turn None old new up more change) }
