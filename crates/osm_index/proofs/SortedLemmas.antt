-- Entries that are sorted by their keys, each once.
use Rattle.std.proofs.Common.{◌≡◌, ◌↔◌, ℕ, List, [], ◌∷◌, length, map, None, Some, refl, sym, ap, ◌∙◌, subst}
use Rattle.std.specs.List.{AllAdjacentBelow, AllByRecursion, Contains}
use Rattle.std.specs.List.Sorted.{IsStrictlySortedBy}
use Rattle.std.specs.declared.cmp.Ordering.TheVariants.{Less}
use Rattle.std.proofs.lemmas.Cmp.{nat_list_cmp_total}
use Rattle.osm_model.proofs.shared.RisingKeys.{rising}
use Rattle.tree_node.specs.Nodes.{AreRisingFrom, Binding, keys_of}
use Rattle.tree_node.specs.NodeRefs.{binding_of, bindings_of}
use Rattle.tree_node.specs.Order.{IsBelow, order}
use Rattle.tree_node.specs.declared.item.Item.{Item}
use Rattle.osm_index.specs.internal.KeyOrder.{IsInOrder}
use Rattle.osm_index.specs.EntryLists.{IsKeyed}
use Rattle.osm_keys.proofs.shared.Members.{from_map, in_map}

abbrev key : Item → List ℕ
key entry = entry.key.now

keys_same : (entries : List Item) → map key entries ≡ keys_of (bindings_of entries)
keys_same [] = refl
keys_same (e ∷ entries) = ap (λ (ks : List (List ℕ)). e.key.now ∷ ks) (keys_same entries)

from_above : (low : List ℕ) (ks : List (List ℕ)) → AllByRecursion (λ y. order low y ≡ Less) ks → IsStrictlySortedBy order ks → AreRisingFrom (Some low) ks
unfolding IsStrictlySortedBy
from_above low [] h s = tt
from_above low (k ∷ ks) h s = (h.0, from_above k ks s.0 s.1)

rises : (ks : List (List ℕ)) → IsStrictlySortedBy order ks → AreRisingFrom None ks
unfolding IsStrictlySortedBy
rises [] s = tt
rises (k ∷ ks) s = (tt, from_above k ks s.0 s.1)

-- entries whose neighbours rise
pub rises_as_given : (entries : List Item) → AllAdjacentBelow (λ first second. IsBelow first.key.now second.key.now) entries (length entries) → AreRisingFrom None (keys_of (bindings_of entries))
rises_as_given entries h = rises _ (subst (λ (ks : List (List ℕ)). IsStrictlySortedBy order ks) (keys_same entries) (rising key nat_list_cmp_total entries h))

keys_of_all : (x : Item) (xs : List Item) → AllByRecursion (λ y. order x.key.now (key y) ≡ Less) xs → AllByRecursion (λ k. order x.key.now k ≡ Less) (map key xs)
keys_of_all x [] h = tt
keys_of_all x (y ∷ ys) h = (h.0, keys_of_all x ys h.1)

by_keys : (xs : List Item) → IsStrictlySortedBy (λ (x y : Item). order x.key.now y.key.now) xs → IsStrictlySortedBy order (map key xs)
unfolding IsStrictlySortedBy
by_keys [] h = tt
by_keys (x ∷ xs) h = (keys_of_all x xs h.0, by_keys xs h.1)

-- entries in the order of their keys rise
pub rises_in_order : (old new : List Item) → IsInOrder old new → AreRisingFrom None (keys_of (bindings_of new))
rises_in_order old new ordered = rises _ (subst (λ (ks : List (List ℕ)). IsStrictlySortedBy order ks) (keys_same new) (by_keys new ordered.rising))

-- putting entries in order keeps the members, where those with one key are equal
pub members_then : (old new : List Item) (list : List Binding) → bindings_of old ≡ list → IsInOrder old new → IsKeyed list → (b : Binding) → Contains (bindings_of new) b ↔ Contains list b
members_then old new list e ordered keyed b = (
  (λ h.
      let found = from_map binding_of new b h in
      let there = in_map binding_of old found.0 (ordered.drawn found.0 found.1) in
      subst (λ (l : List Binding). Contains l b) e (subst (λ (x : Binding). Contains (bindings_of old) x) (sym found.2) there)),
  (λ h.
      let found = from_map binding_of old b (subst (λ (l : List Binding). Contains l b) (sym e) h) in
      let kept = ordered.kept found.0 found.1 in
      let was = in_map binding_of old kept.0 (ordered.drawn kept.0 kept.1) in
      let one = subst IsKeyed (sym e) keyed (binding_of found.0) (binding_of kept.0) (in_map binding_of old found.0 found.1) was kept.2 in
      subst (λ (x : Binding). Contains (bindings_of new) x) (sym (found.2 ∙ one)) (in_map binding_of new kept.0 kept.1)),
)

pub members_else : (old : List Item) (list : List Binding) → bindings_of old ≡ list → (b : Binding) → Contains (bindings_of old) b ↔ Contains list b
members_else old list e b = subst (λ (l : List Binding). Contains (bindings_of old) b ↔ Contains l b) e ((λ h. h), (λ h. h))
