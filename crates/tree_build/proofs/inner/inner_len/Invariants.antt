use Rattle.std.proofs.Common.{◌≡◌, ◌≤◌, ◌+◌, ◌*◌, sum_by, take}
use Rattle.tree_node.specs.NodeRefs.{links_of}
use Rattle.tree_build.proofs.LengthLemmas.{child_length}
use Rattle.tree_build.proofs.inner.inner_len.Given as goal

-- the head and the children so far, and at most the longest links
abbrev pub invariant-loop-child : goal.invariant-loop-child
invariant-loop-child l = record {
  few : l.len ≤ 4 + 8245 * l.child-index;
  exact : l.len ≡ 4 + sum_by child_length (links_of (take l.child-index l.children));
}
