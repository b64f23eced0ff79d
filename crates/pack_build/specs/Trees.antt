-- Trees of a publication whose nodes were written, and why their pack isn't.
-- Source: this project.
use Rattle.std.specs.Prelude.{◌≡◌, ⊤, ◌-◌, ℕ, List, Option, length, map, slice_index}
use Rattle.osm_keys.specs.Publications.{IsNodeIn, IsPublication, Publication, root_of, top_in, tree_in}
use Rattle.tree_node.specs.NodeRefs.{number_of}
use Rattle.tree_node.specs.Nodes.{spelling}
use Rattle.tree_node.specs.Outcomes.{Clash as HasClash}
use Rattle.tree_node.specs.Trees.{level_at}
use Rattle.tree_node.specs.declared.digest.Digest.{Digest}
use Rattle.tree_node.specs.declared.tree.Tree.{Tree}
use Rattle.level_files.specs.Built.{top_in as top_among}
use Rattle.level_files.specs.Levels.{unread_level}
use Rattle.level_files.specs.Stored.{level_of_tree}
use Rattle.level_files.specs.declared.trees_builder.FinishedTrees.{FinishedTrees}
use Rattle.pack_assembly.specs.Packing.{IsPacked, IsTooLong}
use Rattle.pack_build.specs.declared.fault.BuildFault.{BuildFault}
use Rattle.pack_build.specs.declared.fault.BuildFault.TheVariants.{Load, TooMany, Clash, TooLong, Memory, Device, NotWritten}

-- the tops, the heights and the levels are those of the publication's trees
pub record AreTreesOf {S : Type 0} (p : Publication) (trees : FinishedTrees S) : Type 0 where
  pub tops : (tree : Tree) → top_among trees.tops tree ≡ top_in p tree
  pub heights : (tree : Tree) → slice_index trees.heights (number_of tree - 1) ≡ length (tree_in p tree)
  pub levels : (tree : Tree) (level : ℕ) → level_of_tree trees.levels tree level ≡ unread_level (map spelling (level_at (tree_in p tree) level))

-- it is a publication, this is its root, and its pack was written
abbrev pub IsPackedAs : Publication → Option (List ℕ) → Option (List ℕ) → Digest → Type 0
IsPackedAs p old new root = IsPublication p × (root.0 ≡ root_of p) × IsPacked p old new

-- why the pack of its trees isn't written
abbrev pub IsUnpacked : Publication → BuildFault → Type 0
IsUnpacked p (Load load) = ⊥
IsUnpacked p TooMany = ⊥
IsUnpacked p Clash = IsPublication p × HasClash (IsNodeIn p) (IsNodeIn p)
IsUnpacked p TooLong = IsPublication p × IsTooLong p
IsUnpacked p Memory = ⊤
IsUnpacked p Device = ⊤
IsUnpacked p NotWritten = ⊤
