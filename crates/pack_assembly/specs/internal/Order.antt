-- The order of the records of a pack.
use Rattle.std.specs.Prelude.{◌≡◌, ◌+◌, ◌-◌, ℕ, zero, suc, List, [], ◌∷◌, ◌++◌, length, map, min}
use Rattle.std.specs.List.{flat_map}
use Rattle.osm_keys.specs.Publications.{Publication, manifest_of, top_in, tree_in}
use Rattle.tree_node.specs.Digests.{digest}
use Rattle.tree_node.specs.Nodes.{Node, spelling}
use Rattle.tree_node.specs.Trees.{level_at}
use Rattle.tree_node.specs.declared.tree.Tree.{Tree}
use Rattle.tree_node.specs.declared.tree.Tree.TheVariants.{Backs, Cells, Objects, Tags}
use Rattle.node_pack.specs.Packs.{Kept, child_digests, record_len, top_digests}
use Rattle.pack_assembly.specs.declared.row.Row.{Row}

-- ---- rows

-- this many levels of a tree from a level up, the uppermost first
abbrev pub down : Tree → ℕ → ℕ → List Row
down tree low zero = []
down tree low (suc n) = record { tree = tree; level = low + n } ∷ down tree low n

-- the levels of a tree from one up to below another, the uppermost first
abbrev pub between : (Tree → ℕ) → ℕ → ℕ → Tree → List Row
between height low high tree = down tree low (min (height tree) high - low)

-- the same of all trees, in the order of their numbers
abbrev pub in_trees : (Tree → ℕ) → ℕ → ℕ → List Row
in_trees height low high =
    between height low high Objects ++ (between height low high Tags ++ (between height low high Cells ++ between height low high Backs))

-- all levels: those from the second up, those just over the leaves, the leaves
abbrev pub rows_of : (Tree → ℕ) → List Row
rows_of height = in_trees height 2 255 ++ (in_trees height 1 2 ++ in_trees height 0 1)

-- ---- nodes

-- a node, as a pack keeps it
abbrev pub kept_of : Node → Kept
kept_of node = record { bytes = spelling node; children = child_digests node }

abbrev pub kepts_of : List Node → List Kept
kepts_of nodes = map kept_of nodes

-- the digests of nodes
abbrev pub digests_of : List Node → List (List ℕ)
digests_of nodes = map (λ (node : Node). digest (spelling node)) nodes

-- the bytes of nodes
abbrev pub spellings : List Node → List (List ℕ)
spellings nodes = map spelling nodes

-- how many bytes records have
abbrev pub lens : List Kept → ℕ
lens [] = 0
lens (x ∷ nodes) = record_len x + lens nodes

-- ---- a publication

-- the nodes of a row
abbrev pub nodes_in : Publication → Row → List Node
nodes_in p row = level_at (tree_in p row.tree) row.level

abbrev pub kepts_in : Publication → Row → List Kept
kepts_in p row = kepts_of (nodes_in p row)

abbrev pub manifest_kept : Publication → Kept
manifest_kept p = record { bytes = manifest_of p; children = top_digests (top_in p) }

-- the rows of its trees
abbrev pub rows_in : Publication → List Row
rows_in p = rows_of (λ (tree : Tree). length (tree_in p tree))

-- its nodes, in the order of a pack
abbrev pub all_kepts : Publication → List Kept
all_kepts p = manifest_kept p ∷ flat_map (kepts_in p) (rows_in p)

-- the nodes of all levels of its trees
abbrev pub AreNodesOf : Publication → (Tree → ℕ → List (List ℕ)) → Type 0
AreNodesOf p nodes = (tree : Tree) (level : ℕ) → nodes tree level ≡ spellings (level_at (tree_in p tree) level)
