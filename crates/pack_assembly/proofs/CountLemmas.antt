-- How many nodes and levels trees have, and that each level has its place.
use Rattle.std.proofs.Common.{◌≡◌, ◌≢◌, ◌≤◌, ◌<◌, ◌+◌, ◌-◌, ◌^◌, ℕ, zero, suc, List, [], ◌∷◌, ◌++◌, inl, inr, arith, length, refl, sym, ap, subst, ◌∙◌}
use Rattle.std.specs.List.{AllByRecursion, Contains, flat_map}
use Rattle.std.proofs.Math.ListN.{get_or-eq_default}
use Rattle.external_sort.specs.Records.{Entry}
use Rattle.osm_keys.proofs.shared.Members.{first_or_in_rest, here, in_rest, none}
use Rattle.osm_keys.proofs.shared.OnePublication.{lists_have_trees}
use Rattle.osm_keys.specs.Publications.{IsPublication, Publication, shape_in, tree_in}
use Rattle.tree_node.specs.NodeRefs.{number_of}
use Rattle.tree_node.specs.Nodes.{Binding, Node, spelling}
use Rattle.tree_node.specs.Trees.{Shape, level_at}
use Rattle.tree_node.specs.declared.tree.Tree.{Tree}
use Rattle.tree_node.proofs.shared.TreeLaws.{digest_len, pair_at, whole, whole_few}
use Rattle.tree_node.proofs.shared.TreeLemmas.{leaves_few, level_half}
use Rattle.node_pack.specs.Packs.{Kept, record_len}
use Rattle.pack_assembly.specs.declared.layout.PlacedRow.{PlacedRow}
use Rattle.pack_assembly.specs.declared.row.Row.{Row}
use Rattle.pack_assembly.specs.internal.Keys.{AreDigests, key_entries, key_entry}
use Rattle.pack_assembly.specs.internal.Order.{digests_of, kepts_in, lens, manifest_kept, nodes_in, rows_in}
use Rattle.pack_assembly.specs.internal.Placing.{HasRowAt, IsReady, placed_from}
use Rattle.pack_assembly.proofs.PublishedNodes.{levels_in, same_levels}
use Rattle.pack_assembly.proofs.RowLemmas.{less_or_more, row, rows_have, rows_low}

-- ---- nodes

-- no level has more nodes than there may be entries
level_few : (shape : Shape) (tree : ℕ) (entries : List Binding) → length entries ≤ 536870912 → (level : ℕ) → level < length (whole shape tree entries) → length (level_at (whole shape tree entries) level) ≤ 536870912
level_few shape tree entries few zero lt = leaves_few shape tree entries 536870912 (omega arith) few
level_few shape tree entries few (suc level) lt =
    let rest = level_few shape tree entries few level (omega (arith, lt)) in
    let pair = pair_at shape tree entries level lt in
    omega (arith, rest, pair.0, level_half shape tree (suc level) (level_at (whole shape tree entries) level), ap (length {A = Node}) pair.1)

any_few : (shape : Shape) (tree : ℕ) (entries : List Binding) → length entries ≤ 536870912 → (level : ℕ) → length (level_at (whole shape tree entries) level) ≤ 536870912
any_few shape tree entries few level =
    elim (less_or_more (length (whole shape tree entries)) level) [
      | inl over ↦ omega (arith, ap (length {A = Node}) (get_or-eq_default (whole shape tree entries) [] over))
      | inr lt ↦ level_few shape tree entries few level lt
    ]

module _ (p : Publication) (is : IsPublication p) where
  pub nodes_few : (r : Row) → length (nodes_in p r) ≤ 2 ^ 29
  nodes_few r =
      let few = any_few (shape_in p) (number_of r.tree) (p.entries r.tree) (is.few r.tree) r.level in
      omega (arith, few, ap (λ (t : List (List Node)). length (level_at t r.level)) (same_levels p is r.tree))

  pub levels_few : (tree : Tree) → length (tree_in p tree) ≤ 30
  levels_few tree =
      let few = whole_few (shape_in p) (number_of tree) (p.entries tree) (lists_have_trees p is tree) in
      omega (arith, few, ap (length {A = List Node}) (same_levels p is tree))

-- ---- places

-- each row that is laid out has a place
pub record HasPlace (rows : List PlacedRow) (r : Row) : Type 0 where
  pub placed : PlacedRow
  pub is_in : Contains rows placed
  pub row_is : placed.row ≡ r

pub placed_has : (kepts : Row → List Kept) (at : ℕ) (rs : List Row) (r : Row) → Contains rs r → HasPlace (placed_from kepts at rs) r
placed_has kepts at [] r among = absurd (none r among)
placed_has kepts at (s ∷ rs) r among =
    elim (first_or_in_rest s rs r among) [
      | inl same ↦ record { placed = record { row = s; at = at }; is_in = here (record { row = s; at = at }) (placed_from kepts (at + lens (kepts s)) rs); row_is = same }
      | inr more ↦
          let rest = placed_has kepts (at + lens (kepts s)) rs r more in
          record { placed = rest.placed; is_in = in_rest (record { row = s; at = at }) (placed_from kepts (at + lens (kepts s)) rs) rest.placed rest.is_in; row_is = rest.row_is }
    ]

module _ (p : Publication) (nodes : Tree → ℕ → List (List ℕ)) (rows : List PlacedRow) (ready : IsReady p nodes rows) where
  pub has_row : (tree : Tree) (level : ℕ) → level < length (tree_in p tree) → (at : ℕ) × HasRowAt rows tree level at
  has_row tree level lt =
      let among = rows_have (λ (t : Tree). length (tree_in p t)) tree level lt (omega (arith, lt, levels_few p ready.is tree)) in
      let there = placed_has (kepts_in p) (60 + record_len (manifest_kept p)) (rows_in p) (row tree level) among in (
        there.placed.at,
        record {
          placed = there.placed;
          is_in = subst (λ (ps : List PlacedRow). Contains ps there.placed) (sym ready.rows_are) there.is_in;
          tree_is = ap (λ (r : Row). r.tree) there.row_is;
          level_is = ap (λ (r : Row). r.level) there.row_is;
          at_is = refl;
        },
      )

  -- the level below a row
  pub has_lower : (r : Row) → Contains (rows_in p) r → (at : ℕ) × HasRowAt rows r.tree (r.level - 1) at
  has_lower r among =
      let low = rows_low (λ (t : Tree). length (tree_in p t)) r among in
      has_row r.tree (r.level - 1) (omega (arith, low))

-- ---- digests

abbrev IsLong : List ℕ → Type 0
IsLong key = length key ≡ 32

pub are_digests : (keys : List (List ℕ)) → AllByRecursion IsLong keys → AreDigests (key_entries keys)
are_digests [] all e among = absurd (none e among)
are_digests (k ∷ keys) all e among =
    elim (first_or_in_rest (key_entry k) (key_entries keys) e among) [
      | inl same ↦ subst (λ (f : Entry). length f.key ≡ 32) same all.0
      | inr more ↦ are_digests keys all.1 e more
    ]

long_both : (nodes : List Node) (more : List (List ℕ)) → AllByRecursion IsLong more → AllByRecursion IsLong (digests_of nodes ++ more)
long_both [] more all = all
long_both (n ∷ nodes) more all = (digest_len (spelling n), long_both nodes more all)

-- the digests of all nodes
pub long_rows : (p : Publication) (rows : List Row) → AllByRecursion IsLong (flat_map (λ (r : Row). digests_of (nodes_in p r)) rows)
long_rows p [] = tt
long_rows p (r ∷ rows) = long_both (nodes_in p r) _ (long_rows p rows)
