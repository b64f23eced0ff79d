-- What the greatest key of a new node says of the old level: a change has it, or the old node that is sought for it
-- shares an item with the new one.
use Rattle.std.proofs.Common.{◌≡◌, ℕ, ◌≤◌, List, [], ◌∷◌, ◌++◌, length, map, ◌⊎◌, inl, inr, Bool, Option, None, Some, refl, sym, ap, subst, ◌∙◌, append_assoc, arith}
use Rattle.std.specs.Prelude.{IfSome}
use Rattle.std.specs.List.{flat_map, AllByRecursion}
use Rattle.tree_node.specs.Nodes.{AreRisingFrom, Node}
use Rattle.tree_node.specs.Order.{IsBelow}
use Rattle.tree_node.specs.internal.OrderLemmas.{not_itself}
use Rattle.tree_node.specs.Trees.{greatest_of, last_key}
use Rattle.tree_build.specs.Changing.{Change, changed, one_or_none}
use Rattle.tree_build.specs.internal.RisingChanges.{AreOwnAndRising, IsUpTo}
use Rattle.tree_build.specs.internal.Steps.{IsLevel, IsSoughtFor, keys_changed}
use Rattle.tree_build.specs.internal.Weaving.{IsIn}
use Rattle.tree_build.proofs.ChangedLaw.{IsPut, changed_holds}
use Rattle.tree_build.proofs.DifferChanges.{changed_rises}
use Rattle.tree_build.proofs.LevelsLemmas.{in_all}
use Rattle.tree_build.proofs.OnceLemmas.{in_append}
use Rattle.tree_build.proofs.StepItems.{items_above, items_up_to, rise_back}
use Rattle.tree_build.proofs.WeaveLemmas.{above_low, in_back, in_front}

-- ---- items and nodes

module _ {X : Type 0} (key : X → List ℕ) where
  pub record HasLast (xs : List X) : Type 0 where
    pub item : X
    pub is : IsIn item xs
    pub key_is : key item ≡ last_key (map key xs)

  pub last_item : (xs : List X) → 1 ≤ length xs → HasLast xs
  last_item [] some = absurd (omega arith)
  last_item (x ∷ []) some = record { item = x; is = inl refl; key_is = refl }
  last_item (x ∷ y ∷ xs) some = let rest = last_item (y ∷ xs) (omega arith) in record { item = rest.item; is = inr rest.is; key_is = rest.key_is }

  -- an item is of one part only
  apart : (low : Option (List ℕ)) (xs ys : List X) → AreRisingFrom low (map key (xs ++ ys)) → (x : X) → IsIn x xs → IsIn x ys → ⊥
  apart low [] ys rise x one two = one
  apart low (z ∷ xs) ys rise x one two = elim one [
    | inl here ↦ not_itself (key z) (key x) (above_low key (key z) (xs ++ ys) rise.1 x (in_back x xs ys two)) (ap key (sym here))
    | inr there ↦ apart (Some (key z)) xs ys rise.1 x there two
  ]

  own_key : (put : Option X) (k : List ℕ) → IfSome put (λ y. key y ≡ k) → (x : X) → IsIn x (one_or_none put) → key x ≡ k
  own_key None k own x is = absurd is
  own_key (Some y) k own x (inl here) = ap key here ∙ own
  own_key (Some y) k own x (inr never) = absurd never

  -- what is put has the key of a change
  pub put_key : (cs : List (Change X)) → AreOwnAndRising key cs → (x : X) → IsPut key cs x → IsIn (key x) (keys_changed cs)
  put_key [] own x is = absurd is
  put_key (c ∷ cs) own x is = elim is [ inl here ↦ inl (own_key c.put c.key own.0 x here) | inr there ↦ inr (put_key cs own.2 x there) ]

  module _ (items : Node → List X) where
    pub in_items : (ns : List Node) (m : Node) (x : X) → IsIn m ns → IsIn x (items m) → IsIn x (flat_map items ns)
    in_items [] m x is has = absurd is
    in_items (n ∷ ns) m x is has = elim is [
      | inl here ↦ in_front x (items n) (flat_map items ns) (subst (λ (p : Node). IsIn x (items p)) here has)
      | inr there ↦ in_back x (items n) (flat_map items ns) (in_items ns m x there has)
    ]

    pub record HasHolder (ns : List Node) (x : X) : Type 0 where
      pub front : List Node
      pub node : Node
      pub back : List Node
      pub whole : ns ≡ front ++ node ∷ back
      pub has : IsIn x (items node)

    pub holder : (ns : List Node) (x : X) → IsIn x (flat_map items ns) → HasHolder ns x
    holder [] x is = absurd is
    holder (n ∷ ns) x is = elim (in_append x (items n) (flat_map items ns) is) [
      | inl here ↦ record { front = []; node = n; back = ns; whole = refl; has = here }
      | inr there ↦ let rest = holder ns x there in record { front = n ∷ rest.front; node = rest.node; back = rest.back; whole = ap (λ (ms : List Node). n ∷ ms) rest.whole; has = rest.has }
    ]

    -- where keys rise, an item is of one node only
    pub one_holder : (ns : List Node) → AreRisingFrom None (map key (flat_map items ns)) → (p q : Node) → IsIn p ns → IsIn q ns → (x : X) → IsIn x (items p) → IsIn x (items q) → p ≡ q
    one_holder [] rise p q in_p in_q x has_p has_q = absurd in_p
    one_holder (n ∷ ns) rise p q in_p in_q x has_p has_q = elim in_p [
      | inl p_is ↦ elim in_q [
        | inl q_is ↦ p_is ∙ sym q_is
        | inr later ↦ absurd (apart None (items n) (flat_map items ns) rise x (subst (λ (m : Node). IsIn x (items m)) p_is has_p) (in_items ns q x later has_q))
      ]
      | inr p_later ↦ elim in_q [
        | inl q_is ↦ absurd (apart None (items n) (flat_map items ns) rise x (subst (λ (m : Node). IsIn x (items m)) q_is has_q) (in_items ns p x p_later has_p))
        | inr q_later ↦ one_holder ns (rise_back key None (items n) (flat_map items ns) rise) p q p_later q_later x has_p has_q
      ]
    ]

-- ---- the node that has an item is the one that is sought for its key

module _ {X : Type 0} (key : X → List ℕ) (ends : ℕ → X → Bool) (items : Node → List X) (over : List X → Node) (nodes : List Node) (level : IsLevel key ends items over nodes) where
  pub sought_holder : (x : X) → HasHolder key items nodes x → (k : List ℕ) → key x ≡ k → (node : Node) × IsSoughtFor nodes k node × IsIn x (items node)
  sought_holder x h k key_is = (h.node, record { front = h.front; back = h.back; sought = record { whole = h.whole; before = befores [] h.front h.whole; reached = inl reaches } }, h.has)
    where
      reaches : IsUpTo k (greatest_of h.node)
      reaches = subst (λ (l : List ℕ). IsUpTo l (greatest_of h.node)) key_is
          (in_all (λ (y : X). IsUpTo (key y) (greatest_of h.node)) (items h.node) x (items_up_to key ends items over nodes level h.front h.node h.back h.whole) h.has)

      befores : (done front : List Node) → nodes ≡ done ++ (front ++ h.node ∷ h.back) → AllByRecursion (λ (n : Node). IsBelow (greatest_of n) k) front
      befores done [] e = tt
      befores done (n ∷ ns) e = (
        subst (λ (l : List ℕ). IsBelow (greatest_of n) l) key_is
            (in_all (λ (y : X). IsBelow (greatest_of n) (key y)) (flat_map items (ns ++ h.node ∷ h.back)) x (items_above key ends items over nodes level done n (ns ++ h.node ∷ h.back) e)
            (in_items key items (ns ++ h.node ∷ h.back) h.node x (in_back h.node ns (h.node ∷ h.back) (inl refl)) h.has)),
        befores (done ++ n ∷ []) ns (e ∙ sym (append_assoc done (n ∷ []) (ns ++ h.node ∷ h.back))),
      )

-- ---- new nodes

-- the old node that is sought for the key isn't new, but for this one
pub record IsSoughtApart (old new : List Node) (k : List ℕ) (m : Node) : Type 0 where
  pub node : Node
  pub sought : IsSoughtFor old k node
  pub one : IsIn node new → node ≡ m

-- each new node's greatest key is one of the keys, or the old node that is sought for it isn't another new one
abbrev pub AreBorn : List Node → List Node → List (List ℕ) → Type 0
AreBorn old new keys = (m : Node) → IsIn m new → IsIn (greatest_of m) keys ⊎ IsSoughtApart old new (greatest_of m) m

module _ {X : Type 0} (key : X → List ℕ) (ends : ℕ → X → Bool) (items : Node → List X) (over : List X → Node) (old new : List Node) (cs : List (Change X)) (level : IsLevel key ends items over old) (own : AreOwnAndRising key cs)
    (joined : flat_map items new ≡ changed key (flat_map items old) cs) (last : AllByRecursion (λ (n : Node). greatest_of n ≡ last_key (map key (items n))) new) (some : AllByRecursion (λ (n : Node). 1 ≤ length (items n)) new) where
  rises : AreRisingFrom None (map key (flat_map items new))
  rises = subst (λ (xs : List X). AreRisingFrom None (map key xs)) (sym joined) (changed_rises key (flat_map items old) cs level.rising own)

  pub all_born : AreBorn old new (keys_changed cs)
  all_born m is =
      let l = last_item key (items m) (in_all (λ (n : Node). 1 ≤ length (items n)) new m some is) in
      let key_is : key l.item ≡ greatest_of m = l.key_is ∙ sym (in_all (λ (n : Node). greatest_of n ≡ last_key (map key (items n))) new m last is) in
      elim ((changed_holds key (flat_map items old) cs level.rising own l.item).0 (subst (λ (xs : List X). IsIn l.item xs) joined (in_items key items new m l.item is l.is))) [
        | inl put ↦ inl (subst (λ (k : List ℕ). IsIn k (keys_changed cs)) key_is (put_key key cs own l.item put))
        | inr was ↦
            let (node, sought, has) = sought_holder key ends items over old level l.item (holder key items old l.item was.0) (greatest_of m) key_is in
            inr (record { node = node; sought = sought; one = λ in_new. one_holder key items new rises node m in_new is l.item has l.is })
      ]
