use Rattle.std.proofs.Common.{◌≡◌, ◌≤◌, ◌++◌, List, length}
use Rattle.std.specs.List.{AllByRecursion}
use Rattle.tree_node.specs.Nodes.{Link}
use Rattle.tree_build.specs.internal.Seeking.{LiesBefore}
use Rattle.tree_build.proofs.seek.pick_child.Given as goal

-- the children so far lie before the wanted key, and where there are any, there are more
abbrev pub invariant-loop-child : goal.invariant-loop-child
invariant-loop-child l = record {
  next : (goal.iterator-loop-child).can_next l.rest;
  finite : (goal.iterator-loop-child).is_finite l.rest;
  some : 1 ≤ length l.fn.children → 1 ≤ length l.rest;
  before : (front : List Link) × (l.fn.children ≡ front ++ l.rest) × AllByRecursion (λ (link : Link). LiesBefore l.wanted l.above link.greatest) front;
}
