use Rattle.std.specs.List.{All}
use Rattle.tree_node.specs.NodeRefs.{binding_of}
use Rattle.tree_node.specs.Nodes.{FitsEntry}
use Rattle.tree_tests.proofs.tests.by_hand.entries_of.Given as goal

-- each item so far can be written
abbrev pub invariant-loop-key : goal.invariant-loop-key
invariant-loop-key l = All (λ item. FitsEntry (binding_of item)) l.items.items
