use Rattle.std.proofs.Common.{◌≡◌, ◌≤◌, List, length, drop}
use Rattle.std.specs.Vec.Iter.{into_iter_items, into_iter_len}
use Rattle.tree_node.specs.Nodes.{Node}
use Rattle.tree_build.specs.Rebuilding.{digests_of, nodes_of}
use Rattle.tree_build.specs.internal.Edits.{StandForNodes}
use Rattle.tree_build.proofs.TellLemmas.{IsTelling}
use Rattle.tree_build.proofs.level_diff.push_level_diff.Given as goal

-- what was told so far
abbrev pub invariant-loop-new : goal.invariant-loop-new
invariant-loop-new l = record {
  within : l.done ≤ length l.olds;
  count : into_iter_len l.new-iterator ≡ length (into_iter_items l.new-iterator);
  so_far : (olds news : List Node) → StandForNodes l.olds l.fn.news.items olds news
      → IsTelling olds news (drop l.done l.olds) (into_iter_items l.new-iterator) (nodes_of l.fn.added.items) (nodes_of l.added.items) (digests_of l.fn.gone.items) (digests_of l.gone.items);
}
