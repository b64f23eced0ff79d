use Rattle.std.proofs.Common.{◌≡◌, ◌++◌, ◌∷◌, length, take, map}
use Rattle.std.specs.Int.{w16, to_be_bytes}
use Rattle.std.specs.List.{flat_map}
use Rattle.tree_node.specs.Nodes.{entry}
use Rattle.tree_node.specs.NodeRefs.{number_of, binding_of}
use Rattle.tree_node.proofs.write.append_leaf.Given as goal

-- the head and the items so far come after the old bytes
abbrev pub invariant-loop-item : goal.invariant-loop-item
invariant-loop-item l = l.out.items ≡ l.fn.out.items ++ ((number_of l.fn.tree ∷ 0 ∷ to_be_bytes w16 (length l.items)) ++ flat_map entry (map binding_of (take l.item-index l.items)))
