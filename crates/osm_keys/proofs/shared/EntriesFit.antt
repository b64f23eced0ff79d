-- The entries of a set of objects have a tree.
use Rattle.std.proofs.Common.{◌≡◌, ℕ, ℤ, ◌≤◌, ◌^◌, List, [], ◌∷◌, length, refl, subst, arith}
use Rattle.std.specs.List.{AllByRecursion, Contains}
use Rattle.std.proofs.lemmas.List.{length-append}
use Rattle.osm_model.specs.CanonicalLine.{canonical_line}
use Rattle.osm_model.specs.Elements.{Element, reference}
use Rattle.osm_model.specs.Limits.{IsElement}
use Rattle.osm_model.specs.Places.{Place}
use Rattle.osm_model.specs.Sets.{IsObjectSet}
use Rattle.osm_model.specs.declared.tag.Tag.{Tag}
use Rattle.tree_node.proofs.shared.TreeLaws.{digest_len}
use Rattle.tree_node.specs.Nodes.{Binding}
use Rattle.tree_node.specs.Trees.{FitsTree, HasTree}
use Rattle.tree_node.specs.declared.limits.TheConstants.{ENTRY_LIMIT}
use Rattle.tree_node.specs.declared.tree.Tree.{Tree}
use Rattle.tree_node.specs.declared.tree.Tree.TheVariants.{Objects, Tags, Cells, Backs}
use Rattle.osm_keys.specs.Entries.{AreEntriesOf, IsEntryOf, named_value, object_value, placed_key, placed_value}
use Rattle.osm_keys.specs.FineKeys.{fine_column, fine_corner, fine_row, latitude_bytes}
use Rattle.osm_keys.specs.Grains.{Grain, Lines, Whole}
use Rattle.osm_keys.specs.Keys.{cell_bytes, cell_value, column, id_bytes, ref_key, row}
use Rattle.osm_keys.specs.Lines.{digest_of_line}
use Rattle.osm_keys.proofs.shared.KeyLengths.{id_len, ref_key_len, tag_key_len}
use Rattle.osm_keys.proofs.shared.Members.{here, in_rest}
use Rattle.osm_keys.proofs.shared.OneObject.{is_element}

-- what is so of each member is so of all
pub all_from : {X : Type 0} (P : X → Type 0) (xs : List X) → ((x : X) → Contains xs x → P x) → AllByRecursion P xs
all_from P [] h = tt
all_from P (x ∷ xs) h = (h x (here x xs), all_from P xs (λ y k. h y (in_rest x xs y k)))

cell_len : (a b : ℕ) → length (cell_bytes a b) ≡ 4
unfolding cell_bytes
cell_len a b = refl

value_len : (p : Place) → length (cell_value p) ≡ 8
unfolding cell_value
value_len p = refl

corner_len : (a b : ℕ) → length (fine_corner a b) ≡ 6
unfolding fine_corner
corner_len a b = refl

latitude_len : (z : ℤ) → length (latitude_bytes z) ≡ 4
unfolding latitude_bytes
latitude_len z = refl

line_len : (o : Element) → length (digest_of_line o) ≡ 32
line_len o = digest_len (canonical_line o)

-- ---- values and keys that depend on where the lines are

object_value_fits : (grain : Grain) (o : Element) → IsElement o → length (object_value grain o) ≤ 2 ^ 24
object_value_fits Whole o is = is.short_line
object_value_fits Lines o is = let v = line_len o in omega (arith, v)

named_value_fits : (grain : Grain) (o : Element) → length (named_value grain o) ≤ 32
named_value_fits Whole o = omega arith
named_value_fits Lines o = let v = line_len o in omega (arith, v)

placed_key_fits : (grain : Grain) (place : Place) (id : ℤ) → length (placed_key grain place id) ≤ 14
placed_key_fits Whole place id =
    let k = length-append (cell_bytes (row place.lat) (column place.lon)) (id_bytes id) in
    let l = cell_len (row place.lat) (column place.lon) in
    let m = id_len id in
    omega (arith, k, l, m)
placed_key_fits Lines place id =
    let k = length-append (fine_corner (fine_row place.lat) (fine_column place.lon)) (id_bytes id) in
    let l = corner_len (fine_row place.lat) (fine_column place.lon) in
    let m = id_len id in
    omega (arith, k, l, m)

placed_value_fits : (grain : Grain) (place : Place) (o : Element) → length (placed_value grain place o) ≤ 36
placed_value_fits Whole place o = let v = value_len place in omega (arith, v)
placed_value_fits Lines place o =
    let k = length-append (latitude_bytes place.lat) (digest_of_line o) in
    let l = latitude_len place.lat in
    let v = line_len o in
    omega (arith, k, l, v)

-- ---- entries

fits : (grain : Grain) (o : Element) (tree : Tree) (b : Binding) → IsElement o → IsEntryOf grain o tree b → FitsTree b
fits grain o Objects b is e = rw e (record { key = let k = ref_key_len (reference o) in omega (arith, k); value = let v = object_value_fits grain o is in omega (arith, v) })
fits grain o Tags b is (tag, has, e) =
    let short = subst (λ (t : Tag). (length t.key ≤ 4096) × (length t.value ≤ 4096)) has.2 (is.fits.short.in_tags has.0 tag has.1) in
    rw e (record { key = let k = tag_key_len tag.key tag.value (reference o) in omega (arith, k, short.0, short.1); value = let v = named_value_fits grain o in omega (arith, v) })
fits grain o Cells b is (place, at, e) =
    rw e (record { key = let k = placed_key_fits grain place o.id in omega (arith, k); value = let v = placed_value_fits grain place o in omega (arith, v) })
fits grain o Backs b is (target, lists, e) =
    rw e (record {
      key = let k = length-append (ref_key target) (ref_key (reference o)) in let l = ref_key_len target in let m = ref_key_len (reference o) in omega (arith, k, l, m);
      value = let v = named_value_fits grain o in omega (arith, v);
    })

module _ (grain : Grain) (objects : List Element) (set : IsObjectSet objects) (tree : Tree) (entries : List Binding) (are : AreEntriesOf grain objects tree entries) where
  pub entries_fit : AllByRecursion FitsTree entries
  entries_fit = all_from FitsTree entries (λ b h. let of = (are.members b).0 h in fits grain of.0 tree b (is_element objects of.0 set of.1) of.2)

  pub has_tree : length entries ≤ ENTRY_LIMIT → HasTree entries
  has_tree few = record { rising = are.rising; fit = entries_fit; few = few }
