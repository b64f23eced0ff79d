use Rattle.std.proofs.Common.{◌≡◌, ℕ, ◌+◌, ◌<◌, List, length}
use Rattle.std.specs.List.{AllByRecursion}
use Rattle.std.specs.Vec.Iter.{into_iter_items, into_iter_len}
use Rattle.tree_node.specs.Nodes.{IsNode, Node}
use Rattle.tree_node.specs.Trees.{level_at}
use Rattle.tree_build.specs.Rebuilding.{digests_of, nodes_of}
use Rattle.tree_build.specs.internal.TreeEdits.{AreEdits}
use Rattle.tree_build.proofs.TellAllLemmas.{AreTelling}
use Rattle.tree_build.proofs.finish.push_tree_diff.Given as goal

-- what was told so far
abbrev pub invariant-loop-edit : goal.invariant-loop-edit
invariant-loop-edit l = record {
  count : into_iter_len l.edit-iterator ≡ length (into_iter_items l.edit-iterator);
  level_is : l.level + length (into_iter_items l.edit-iterator) ≡ length l.fn.edits.items;
  so_far : (old : List (List Node)) (new : ℕ → List Node) (are : AreEdits old new 0 l.fn.edits.items)
      → ((level : ℕ) → level < length l.fn.edits.items → AllByRecursion IsNode (level_at old level) × AllByRecursion IsNode (new level))
      → AreTelling old new l.fn.top_level l.fn.edits.items are l.level (into_iter_items l.edit-iterator) (nodes_of l.fn.added.items) (nodes_of l.added.items) (digests_of l.fn.gone.items) (digests_of l.gone.items);
}
