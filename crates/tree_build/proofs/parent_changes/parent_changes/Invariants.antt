use Rattle.std.proofs.Common.{◌≤◌, List, length, drop}
use Rattle.tree_node.specs.NodeRefs.{link_of}
use Rattle.tree_node.specs.Nodes.{Node}
use Rattle.tree_build.specs.internal.Edits.{StandForNodes}
use Rattle.tree_build.specs.internal.ItemChanges.{changes_meant}
use Rattle.tree_build.proofs.DifferLemmas.{IsMerging}
use Rattle.tree_build.proofs.parent_changes.parent_changes.Given as goal

-- what the nodes so far differ by
abbrev pub invariant-loop-new : goal.invariant-loop-new
invariant-loop-new l = record {
  within : l.done ≤ length l.olds;
  so_far : (olds news : List Node) → StandForNodes l.olds l.edit.news.items olds news
      → (lost : List Node) × (gained : List Node) × IsMerging olds news (drop l.done l.olds) (drop l.new-index l.edit.news.items) lost gained (changes_meant link_of l.changes.items);
}
