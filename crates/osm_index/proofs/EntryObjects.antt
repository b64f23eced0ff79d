-- The objects of the entries of the object tree.
use Rattle.std.proofs.Common.{◌≡◌, ℕ, zero, suc, ◌+◌, ◌<◌, List, [], ◌∷◌, ◌++◌, length, map, get_or, take, refl, sym, ap, ◌∙◌, arith}
use Rattle.std.specs.List.Sorted.{IsPermutation}
use Rattle.std.proofs.lemmas.List.{take_more}
use Rattle.std.proofs.lemmas.List.Sorted.{Contains-permutation, IsPermutation-sym}
use Rattle.std.proofs.lemmas.Map.Keys.{IsDistinct-from_sorted}
use Rattle.osm_model.specs.CanonicalLine.{canonical_line}
use Rattle.osm_model.specs.Elements.{Element, ref_cmp, references}
use Rattle.osm_model.specs.Limits.{IsElement}
use Rattle.osm_model.specs.Sets.{HasDistinctReferences, IsObjectSet}
use Rattle.tree_node.specs.NodeRefs.{binding_of, bindings_of}
use Rattle.tree_node.specs.Nodes.{Binding}
use Rattle.tree_node.specs.declared.item.Item.{Item}
use Rattle.tree_node.specs.declared.tree.Tree.TheVariants.{Objects}
use Rattle.tree_walk.specs.Choices.{AreThose}
use Rattle.tree_walk.specs.Ranges.{Range}
use Rattle.tree_walk.specs.Walks.{IsEntryIn}
use Rattle.osm_keys.specs.Entries.{object_entry}
use Rattle.osm_keys.specs.Grains.{Whole}
use Rattle.osm_keys.specs.Publications.{IsPublication, Publication}
use Rattle.osm_keys.specs.Ranges.{under_all}
use Rattle.osm_index.specs.internal.HeldTrees.{AreObjectEntries}
use Rattle.osm_index.proofs.HeldTreeLemmas.{all_those, in_all_keys}
use Rattle.osm_index.proofs.SnapshotLemmas.{objects_listed}
use Rattle.osm_index.proofs.shared.ChangeLaws.{one_set}

-- an entry and its object
pub object_in : (objects : List Element) (entries : List Item) (i : ℕ) (x : Item) → AreObjectEntries objects (bindings_of entries) → i < length entries → (o : Element) × IsElement o × (i < length objects) × (get_or objects i o ≡ o) × ((get_or entries i x).value.now ≡ canonical_line o)
object_in objects entries i x are inside = at objects entries i inside are.entries_are (λ k o lt. are.elements k o lt)
  where
    at : (objects : List Element) (entries : List Item) (i : ℕ) → i < length entries → bindings_of entries ≡ map (object_entry Whole) objects → ((k : ℕ) (o : Element) → k < length objects → IsElement (get_or objects k o))
        → (o : Element) × IsElement o × (i < length objects) × (get_or objects i o ≡ o) × ((get_or entries i x).value.now ≡ canonical_line o)
    at objects [] i inside e each = absurd (omega (arith, inside))
    at [] (y ∷ entries) i inside e each = absurd Prim.cc
    at (o ∷ objects) (y ∷ entries) zero inside e each = (let first : binding_of y ≡ object_entry Whole o = Prim.cc in (o, each 0 o (omega arith), omega arith, refl, ap (λ (b : Binding). b.value) first))
    at (o ∷ objects) (y ∷ entries) (suc i) inside e each =
        let rest : bindings_of entries ≡ map (object_entry Whole) objects = Prim.cc in
        let found = at objects entries i (omega (arith, inside)) rest (λ k p lt. each (suc k) p (omega (arith, lt))) in
        (found.0, found.1, omega (arith, found.2), found.3, found.4)

-- one object more
pub object_more : (objects : List Element) (i : ℕ) (o read : Element) (old new : List Element) → i < length objects → get_or objects i o ≡ o → read ≡ o → old ≡ take i objects → new ≡ old ++ read ∷ [] → new ≡ take (i + 1) objects
object_more objects i o read old new inside at same before pushed =
    pushed ∙ ap (λ (xs : List Element). xs ++ read ∷ []) before ∙ ap (λ (x : Element). take i objects ++ x ∷ []) (same ∙ sym at) ∙ sym (take_more objects i o inside)

-- the entries of a publication's object tree
pub publication_entries : (p : Publication) → IsPublication p → (entries : List Binding) → entries ≡ p.entries Objects → AreObjectEntries p.objects entries
publication_entries p is entries same = record { elements = is.set.elements; entries_are = same ∙ objects_listed p is }

-- the entries that are read in the range of all keys
pub all_read : (p : Publication) → IsPublication p → (keys : Range) → keys ≡ under_all [] → (found lent : List Item) → lent ≡ found
    → AreThose (IsEntryIn keys) (p.entries Objects) (bindings_of found) → AreObjectEntries p.objects (bindings_of lent)
all_read p published keys is found lent one read =
    let those = all_those (IsEntryIn keys) (p.entries Objects) (bindings_of found) (in_all_keys keys is) read in
    publication_entries p published (bindings_of lent) (ap (λ (es : List Item). bindings_of es) one ∙ those)

pub set_apart : (objects : List Element) → IsObjectSet objects → HasDistinctReferences objects
set_apart objects set = IsDistinct-from_sorted ref_cmp (references objects) set.rising

-- a set of the same objects is the set
pub set_again : (objects set : List Element) → IsObjectSet objects → IsPermutation objects set → IsObjectSet set → set ≡ objects
set_again objects set is permuted made = one_set set objects made is (λ o. ((λ h. Contains-permutation _ _ o (IsPermutation-sym _ _ permuted) h), (λ h. Contains-permutation _ _ o permuted h)))
