-- The entries of a tree of a set: no two have one key but equal ones, and those of sorted records are all of them.
use Rattle.std.proofs.Common.{◌≡◌, ◌↔◌, ℕ, ◌++◌, List, drop, ℤ, None, refl, sym, ap, ◌∙◌}
use Rattle.std.specs.List.{Contains}
use Rattle.std.specs.List.Sorted.{IsPermutation}
use Rattle.std.proofs.lemmas.List.Sorted.{Contains-permutation, IsPermutation-map, IsPermutation-sym}
use Rattle.osm_model.specs.CanonicalLine.{canonical_line}
use Rattle.osm_model.specs.Elements.{Element, reference}
use Rattle.osm_model.specs.Sets.{IsObjectSet}
use Rattle.osm_model.specs.declared.body.Body.{Body}
use Rattle.osm_model.specs.declared.body.Body.TheVariants as bodies
use Rattle.tree_node.specs.Nodes.{Binding}
use Rattle.tree_node.specs.declared.tree.Tree.{Tree}
use Rattle.tree_node.specs.declared.tree.Tree.TheVariants.{Objects, Tags, Cells, Backs}
use Rattle.osm_keys.specs.Entries.{AreEntriesOf, IsEntryOfSome}
use Rattle.osm_keys.specs.Grains.{Whole}
use Rattle.osm_keys.specs.Keys.{cell_bytes, column, id_bytes, ref_key, row}
use Rattle.osm_keys.proofs.shared.OneObject.{is_element, one_object, same_id, same_ref}
use Rattle.osm_index.specs.EntryLists.{IsKeyed}
use Rattle.external_sort.specs.Records.{Entry, Rises}
use Rattle.entry_sort.specs.internal.Once.{binding_of, bindings_of, once_from}
use Rattle.entry_sort.proofs.OnceLemmas.{once_rises, once_whole}

ids_of_cells : (a b c d : ℕ) (y z : ℤ) → cell_bytes a b ++ id_bytes y ≡ cell_bytes c d ++ id_bytes z → id_bytes y ≡ id_bytes z
unfolding cell_bytes
ids_of_cells a b c d y z e = ap (λ (bytes : List ℕ). drop 4 bytes) e

module _ (objects : List Element) (set : IsObjectSet objects) where
  entries_keyed : (tree : Tree) (a b : Binding) → IsEntryOfSome Whole objects tree a → IsEntryOfSome Whole objects tree b → a.key ≡ b.key → a ≡ b
  entries_keyed Objects a b h k e =
      let refs : ref_key (reference h.0) ≡ ref_key (reference k.0) = sym (ap (λ (x : Binding). x.key) h.2) ∙ e ∙ ap (λ (x : Binding). x.key) k.2 in
      let one = one_object objects h.0 k.0 set h.1 k.1 (same_ref (reference h.0) (reference k.0) (is_element objects h.0 set h.1).in_range (is_element objects k.0 set k.1).in_range refs) in
      h.2 ∙ ap (λ (o : Element). record { key = ref_key (reference o); value = canonical_line o }) one ∙ sym k.2
  entries_keyed Tags a b (o, there, (tag, has, is)) (o', there', (tag', has', is')) e = cc
  entries_keyed Cells a b (o, there, (place, at, is)) (o', there', (place', at', is')) e =
      let keys = sym (ap (λ (x : Binding). x.key) is) ∙ e ∙ ap (λ (x : Binding). x.key) is' in
      let ids = ids_of_cells (row place.lat) (column place.lon) (row place'.lat) (column place'.lon) o.id o'.id keys in
      let id = same_id o.id o'.id (is_element objects o set there).in_range (is_element objects o' set there').in_range ids in
      let refs : reference o ≡ reference o' = rw (at, at', id) refl in
      let one = one_object objects o o' set there there' refs in
      let bodies_same : bodies.Node place ≡ bodies.Node place' = sym at ∙ ap (λ (x : Element). x.body) one ∙ at' in
      let places : place ≡ place' = cc in
      is ∙ rw (places, id) refl ∙ sym is'
  entries_keyed Backs a b (o, there, (target, lists, is)) (o', there', (target', lists', is')) e = cc

  -- sorted records, each entry once
  pub are_entries : (tree : Tree) (records given : List Entry) → ((b : Binding) → Contains (bindings_of records) b ↔ IsEntryOfSome Whole objects tree b) → IsPermutation records given → Rises given
      → AreEntriesOf Whole objects tree (once_from None given)
  are_entries tree records given members order rises =
      let moved = IsPermutation-map binding_of records given order in
      let back = IsPermutation-sym (bindings_of records) (bindings_of given) moved in
      let into : (b : Binding) → Contains (bindings_of given) b → IsEntryOfSome Whole objects tree b = λ b h. (members b).0 (Contains-permutation (bindings_of given) (bindings_of records) b back h) in
      let keyed : IsKeyed (bindings_of given) = λ a b h k e. entries_keyed tree a b (into a h) (into b k) e in
      record {
        rising = once_rises None given;
        members = λ b.
            let whole = once_whole given rises keyed b in
            ((λ h. into b (whole.0 h)), (λ h. whole.1 (Contains-permutation (bindings_of records) (bindings_of given) b moved ((members b).1 h))));
      }
