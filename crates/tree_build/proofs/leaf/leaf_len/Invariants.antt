use Rattle.std.proofs.Common.{◌≡◌, ◌≤◌, ◌+◌, ◌*◌, length, take}
use Rattle.std.specs.List.{flat_map}
use Rattle.tree_node.specs.NodeRefs.{bindings_of}
use Rattle.tree_node.specs.Nodes.{entry}
use Rattle.tree_build.proofs.leaf.leaf_len.Given as goal

-- the head and the entries so far, and at most the longest entries
abbrev pub invariant-loop-entry : goal.invariant-loop-entry
invariant-loop-entry l = record {
  few : l.len ≤ 4 + 16785425 * l.entry-index;
  exact : l.len ≡ 4 + length (flat_map entry (bindings_of (take l.entry-index l.entries)));
}
