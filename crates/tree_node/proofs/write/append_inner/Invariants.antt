use Rattle.std.proofs.Common.{◌≡◌, ◌++◌, ◌∷◌, length, take, map}
use Rattle.std.specs.Int.{w16, to_be_bytes}
use Rattle.std.specs.List.{flat_map}
use Rattle.tree_node.specs.Nodes.{link}
use Rattle.tree_node.specs.NodeRefs.{number_of, link_of}
use Rattle.tree_node.proofs.write.append_inner.Given as goal

-- the head and the children so far come after the old bytes
abbrev pub invariant-loop-child : goal.invariant-loop-child
invariant-loop-child l = l.out.items ≡ l.fn.out.items ++ ((number_of l.fn.tree ∷ l.fn.level ∷ to_be_bytes w16 (length l.children)) ++ flat_map link (map link_of (take l.child-index l.children)))
