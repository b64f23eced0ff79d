use Rattle.std.proofs.Common.{None, drop}
use Rattle.std.specs.List.{AllByRecursion}
use Rattle.std.specs.Option.{option_copied}
use Rattle.tree_node.specs.Nodes.{AreRisingFrom, keys_of}
use Rattle.tree_node.specs.NodeRefs.{bindings_of}
use Rattle.tree_node.specs.Trees.{FitsTree}
use Rattle.tree_tests.proofs.tests.whole_trees.has_tree.Given as goal

-- the entries have a tree where those still to come are as they have to be
abbrev pub invariant-loop-entry : goal.invariant-loop-entry
invariant-loop-entry l = record {
  fit : AllByRecursion FitsTree (bindings_of (drop l.entry-index l.entries)) → AllByRecursion FitsTree (bindings_of l.entries);
  rise : AreRisingFrom (option_copied l.last) (keys_of (bindings_of (drop l.entry-index l.entries))) → AreRisingFrom None (keys_of (bindings_of l.entries));
}
