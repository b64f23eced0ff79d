-- The levels of a publication's trees, as they are read again.
-- Source: this project's trees, docs/FORMATS.md.
use Rattle.std.specs.Prelude.{◌≡◌, ◌-◌, ℕ, List, length, map, slice_index}
use Rattle.osm_keys.specs.Manifests.{top_among}
use Rattle.osm_keys.specs.Publications.{Publication, top_in, tree_in}
use Rattle.tree_node.specs.NodeRefs.{number_of}
use Rattle.tree_node.specs.Nodes.{spelling}
use Rattle.tree_node.specs.Trees.{level_at}
use Rattle.tree_node.specs.declared.tree.Tree.{Tree}
use Rattle.pack_assembly.specs.declared.trees.BuiltTrees.{BuiltTrees}

-- the height of a tree among four that are in the order of the trees' numbers
abbrev pub height_among : List ℕ → Tree → ℕ
height_among heights tree = slice_index heights (number_of tree - 1)

-- the edition, the tops and the heights are those of the publication, and the nodes of each level are those of its trees
pub record AreLevelsOf (p : Publication) (trees : BuiltTrees) (nodes : Tree → ℕ → List (List ℕ)) : Type 0 where
  pub edition : trees.edition ≡ p.edition
  pub tops : (tree : Tree) → top_among trees.tops tree ≡ top_in p tree
  pub heights : (tree : Tree) → height_among trees.heights tree ≡ length (tree_in p tree)
  pub levels : (tree : Tree) (level : ℕ) → nodes tree level ≡ map spelling (level_at (tree_in p tree) level)
