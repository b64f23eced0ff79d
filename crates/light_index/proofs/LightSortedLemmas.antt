-- Entries that are sorted by their keys, each once.
use Rattle.std.proofs.Common.{◌≡◌, ◌↔◌, ℕ, Bool, List, [], ◌∷◌, length, map, None, Some, refl, sym, ap, ◌∙◌, subst}
use Rattle.std.specs.List.{AllAdjacentBelow, AllByRecursion, Contains, dedup}
use Rattle.std.specs.List.Sorted.{IsPermutation, IsSortedByKey, IsStrictlySortedBy}
use Rattle.std.specs.Cmp.{IsEquivalence}
use Rattle.std.specs.Prelude.{bytes_eq}
use Rattle.std.specs.declared.cmp.Ordering.TheVariants.{Less}
use Rattle.std.proofs.lemmas.Cmp.{nat_list_cmp_total, on_total}
use Rattle.std.proofs.lemmas.List.Kept.{Any-dedup, Contains-from_dedup, IsStrictlySortedBy-dedup}
use Rattle.std.proofs.lemmas.List.Sorted.{Contains-permutation, IsPermutation-sym}
use Rattle.std.proofs.lemmas.Map.Text.{is_eq-slice_cmp}
use Rattle.std.proofs.lemmas.Slice.Eq.{bytes_eq-Decides}
use Rattle.std.specs.Cmp.Lexicographic.{nat_list_eq_equiv}
use Rattle.osm_model.proofs.shared.RisingKeys.{rising}
use Rattle.tree_node.specs.Nodes.{AreRisingFrom, Binding, keys_of}
use Rattle.tree_node.specs.NodeRefs.{binding_of, bindings_of}
use Rattle.tree_node.specs.Order.{IsBelow, order}
use Rattle.tree_node.specs.declared.item.Item.{Item}
use Rattle.osm_index.specs.EntryLists.{IsKeyed}
use Rattle.osm_keys.proofs.shared.Members.{from_map, in_map}

abbrev key : Item → List ℕ
key entry = entry.key.now

keys_same : (entries : List Item) → map key entries ≡ keys_of (bindings_of entries)
keys_same [] = refl
keys_same (e ∷ entries) = ap (λ (ks : List (List ℕ)). e.key.now ∷ ks) (keys_same entries)

from_above : (low : List ℕ) (ks : List (List ℕ)) → AllByRecursion (λ y. order low y ≡ Less) ks → IsStrictlySortedBy order ks → AreRisingFrom (Some low) ks
unfolding IsStrictlySortedBy
from_above low [] h s = tt
from_above low (k ∷ ks) h s = (h.0, from_above k ks s.0 s.1)

rises : (ks : List (List ℕ)) → IsStrictlySortedBy order ks → AreRisingFrom None ks
unfolding IsStrictlySortedBy
rises [] s = tt
rises (k ∷ ks) s = (tt, from_above k ks s.0 s.1)

-- entries whose neighbours rise
pub rises_as_given : (entries : List Item) → AllAdjacentBelow (λ first second. IsBelow first.key.now second.key.now) entries (length entries) → AreRisingFrom None (keys_of (bindings_of entries))
rises_as_given entries h = rises _ (subst (λ (ks : List (List ℕ)). IsStrictlySortedBy order ks) (keys_same entries) (rising key nat_list_cmp_total entries h))

-- two entries have one key
abbrev pub same_key : Item → Item → Bool
same_key second first = bytes_eq second.key.now first.key.now

same_equiv : IsEquivalence same_key
same_equiv = record {
  refl = λ x. nat_list_eq_equiv.refl x.key.now;
  symm = λ x y. nat_list_eq_equiv.symm x.key.now y.key.now;
  congr = λ x y z. nat_list_eq_equiv.congr x.key.now y.key.now z.key.now;
}

keys_of_all : (x : Item) (xs : List Item) → AllByRecursion (λ y. order x.key.now (key y) ≡ Less) xs → AllByRecursion (λ k. order x.key.now k ≡ Less) (map key xs)
keys_of_all x [] h = tt
keys_of_all x (y ∷ ys) h = (h.0, keys_of_all x ys h.1)

by_keys : (xs : List Item) → IsStrictlySortedBy (λ (x y : Item). order x.key.now y.key.now) xs → IsStrictlySortedBy order (map key xs)
unfolding IsStrictlySortedBy
by_keys [] h = tt
by_keys (x ∷ xs) h = (keys_of_all x xs h.0, by_keys xs h.1)

pub rises_sorted : (sorted : List Item) → IsSortedByKey (λ entry. entry.key.now) order sorted → AreRisingFrom None (keys_of (bindings_of (dedup same_key sorted)))
rises_sorted sorted h =
    let apart = IsStrictlySortedBy-dedup (on_total key nat_list_cmp_total) {E = same_key} (λ x y. sym (is_eq-slice_cmp x.key.now y.key.now)) sorted h in
    rises _ (subst (λ (ks : List (List ℕ)). IsStrictlySortedBy order ks) (keys_same (dedup same_key sorted)) (by_keys (dedup same_key sorted) apart))

-- sorting and dropping repeats keeps the members, where entries with one key are equal
pub members_sorted : (old sorted : List Item) → IsPermutation old sorted → IsKeyed (bindings_of old) → (b : Binding) → Contains (bindings_of (dedup same_key sorted)) b ↔ Contains (bindings_of old) b
members_sorted old sorted p keyed b = (
  (λ h.
      let found = from_map binding_of (dedup same_key sorted) b h in
      let there = Contains-permutation sorted old found.0 (IsPermutation-sym _ _ p) (Contains-from_dedup same_key sorted found.0 found.1) in
      subst (λ (x : Binding). Contains (bindings_of old) x) (sym found.2) (in_map binding_of old found.0 there)),
  (λ h.
      let found = from_map binding_of old b h in
      let there = Contains-permutation old sorted found.0 p found.1 in
      let kept = Any-dedup same_equiv sorted found.0 there in
      let item = kept.1 in
      let is_kept : Contains (dedup same_key sorted) item = (kept.0, kept.2, kept.3) in
      let was = Contains-permutation sorted old item (IsPermutation-sym _ _ p) (Contains-from_dedup same_key sorted item is_kept) in
      let one_key : found.0.key.now ≡ item.key.now = (bytes_eq-Decides found.0.key.now item.key.now).0 kept.4 in
      let one = keyed (binding_of found.0) (binding_of item) (in_map binding_of old found.0 found.1) (in_map binding_of old item was) one_key in
      subst (λ (x : Binding). Contains (bindings_of (dedup same_key sorted)) x) (sym (found.2 ∙ one)) (in_map binding_of (dedup same_key sorted) item is_kept)),
)

pub members_then : (old sorted : List Item) (list : List Binding) → bindings_of old ≡ list → IsPermutation old sorted → IsKeyed list → (b : Binding) → Contains (bindings_of (dedup same_key sorted)) b ↔ Contains list b
members_then old sorted list e p keyed b =
    subst (λ (l : List Binding). Contains (bindings_of (dedup same_key sorted)) b ↔ Contains l b) e (members_sorted old sorted p (subst IsKeyed (sym e) keyed) b)

pub members_else : (old : List Item) (list : List Binding) → bindings_of old ≡ list → (b : Binding) → Contains (bindings_of old) b ↔ Contains list b
members_else old list e b = subst (λ (l : List Binding). Contains (bindings_of old) b ↔ Contains l b) e ((λ h. h), (λ h. h))
