-- Where records stand.
use Rattle.std.specs.Prelude.{◌≡◌, ◌≢◌, ◌⊎◌, ◌<◌, ◌≤◌, ◌+◌, ◌^◌, ℕ, List, [], ◌∷◌, ◌++◌, Option, Some, length, ⊤}
use Rattle.std.specs.List.{AllByRecursion, Contains, flat_map}
use Rattle.osm_keys.specs.Publications.{IsPublication, Publication, top_in, tree_in}
use Rattle.tree_node.specs.Digests.{digest}
use Rattle.tree_node.specs.declared.tree.Tree.{Tree}
use Rattle.tree_node.specs.Nodes.{IsNode, Node, level_of}
use Rattle.node_pack.specs.Packs.{AreApart, Kept, child_digests, place_in, record_bytes, record_len, table}
use Rattle.tree_node.specs.declared.tree.Tree.TheVariants.{Backs, Cells, Objects, Tags}
use Rattle.node_pack.specs.declared.place.Place.{Place}
use Rattle.pack_assembly.specs.Levels.{height_among}
use Rattle.pack_assembly.specs.declared.layout.Layout.{Layout}
use Rattle.pack_assembly.specs.declared.layout.PlacedRow.{PlacedRow}
use Rattle.pack_assembly.specs.declared.row.Row.{Row}
use Rattle.pack_assembly.specs.internal.Order.{AreNodesOf, all_kepts, digests_of, kepts_in, kepts_of, lens, manifest_kept, rows_in, spellings}

-- the rows, each with the offset of its first record, from an offset on
abbrev pub placed_from : (Row → List Kept) → ℕ → List Row → List PlacedRow
placed_from kepts at [] = []
placed_from kepts at (row ∷ rows) = record { row = row; at = at } ∷ placed_from kepts (at + lens (kepts row)) rows

-- one of the rows is of this level of this tree, and its first record stands at this offset
pub record HasRowAt (rows : List PlacedRow) (tree : Tree) (level at : ℕ) : Type 0 where
  pub placed : PlacedRow
  pub is_in : Contains rows placed
  pub tree_is : placed.row.tree ≡ tree
  pub level_is : placed.row.level ≡ level
  pub at_is : placed.at ≡ at

-- these nodes have records that stand one after the other from an offset on, none of them beyond what a file may have
abbrev pub ArePlaced : (List ℕ → Option Place) → ℕ → List Kept → Type 0
ArePlaced place_of at [] = ⊤
ArePlaced place_of at (kept ∷ others) =
    (place_of (digest kept.bytes) ≡ Some (record { at = at; len = record_len kept })) × (record_len kept < 2 ^ 32) × (at + record_len kept ≤ 2 ^ 48)
    × ArePlaced place_of (at + record_len kept) others

-- one of the records is too long, or all of them are, from an offset on
abbrev pub AreLong : ℕ → List Kept → Type 0
AreLong at kepts = ((kept : Kept) × Contains kepts kept × (2 ^ 32 ≤ record_len kept)) ⊎ (2 ^ 48 < at + lens kepts)

-- none of the records is too long
abbrev pub AreShort : List Kept → Type 0
AreShort [] = ⊤
AreShort (kept ∷ others) = (record_len kept < 2 ^ 32) × AreShort others

-- these rows are laid out one after the other from an offset on
pub record IsLaidOut (kepts : Row → List Kept) (first : ℕ) (rows : List Row) (layout : Layout) : Type 0 where
  pub rows_are : layout.rows.items ≡ placed_from kepts first rows
  pub size_is : layout.size ≡ first + lens (flat_map kepts rows)
  pub size_short : layout.size ≤ 2 ^ 48
  pub short : AreShort (flat_map kepts rows)

-- just these nodes are yet to be measured, and their records stand one after the other from an offset on
pub record IsAmong (place_of : List ℕ → Option Place) (unmeasured : List (List ℕ)) (at : ℕ) (nodes : List Node) : Type 0 where
  pub left : unmeasured ≡ spellings nodes
  pub are : AllByRecursion IsNode nodes
  pub placed : ArePlaced place_of at (kepts_of nodes)

-- it is a node of this level
abbrev pub IsOfLevel : ℕ → Node → Type 0
IsOfLevel level node = IsNode node × (level_of node ≡ level)

-- these nodes of a row have just these nodes as their children, which are yet to be measured, and whose records stand one after
-- the other from an offset on
pub record AreParentsOf (place_of : List ℕ → Option Place) (unmeasured : List (List ℕ)) (row : Row) (at : ℕ) (nodes lower : List Node) : Type 0 where
  pub are : AllByRecursion (IsOfLevel row.level) nodes
  pub joined : flat_map child_digests nodes ≡ digests_of lower
  pub short : AreShort (kepts_of nodes)
  pub among : row.level ≢ 0 → IsAmong place_of unmeasured at lower

-- the nodes are those of the publication, which may have a pack, and the rows are laid out for it
pub record IsReady (p : Publication) (nodes : Tree → ℕ → List (List ℕ)) (rows : List PlacedRow) : Type 0 where
  pub is : IsPublication p
  pub nodes_are : AreNodesOf p nodes
  pub rows_are : rows ≡ placed_from (kepts_in p) (60 + record_len (manifest_kept p)) (rows_in p)
  pub apart : AreApart (all_kepts p)
  pub short : AreShort (all_kepts p)
  pub size : 60 + lens (all_kepts p) ≤ 2 ^ 48

-- the heights are those of its trees
abbrev pub AreHeightsOf : Publication → List ℕ → Type 0
AreHeightsOf p heights = (tree : Tree) → height_among heights tree ≡ length (tree_in p tree)

-- ---- what is written

-- the place of the top of a tree
abbrev pub top_table : Publication → Tree → List ℕ
top_table p tree = table (place_in (all_kepts p)) (top_in p tree ∷ [])

-- those of all four
abbrev pub tops_table : Publication → List ℕ
tops_table p = top_table p Objects ++ (top_table p Tags ++ (top_table p Cells ++ top_table p Backs))

-- the records of a row
abbrev pub row_bytes : Publication → Row → List ℕ
row_bytes p row = flat_map (record_bytes (place_in (all_kepts p))) (kepts_in p row)

-- those of several
abbrev pub rows_bytes : Publication → List PlacedRow → List ℕ
rows_bytes p rows = flat_map (λ (placed : PlacedRow). row_bytes p placed.row) rows

-- what follows the front of a pack
abbrev pub rest_of : Publication → List ℕ
rest_of p = tops_table p ++ rows_bytes p (placed_from (kepts_in p) (60 + record_len (manifest_kept p)) (rows_in p))
