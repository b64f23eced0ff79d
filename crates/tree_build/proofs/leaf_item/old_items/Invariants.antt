use Rattle.std.proofs.Common.{◌≡◌, ◌++◌, map}
use Rattle.std.specs.List.{AllByRecursion}
use Rattle.tree_node.specs.Trees.{Two, is_marked_entry}
use Rattle.tree_build.specs.Cuts.{EndsNoSooner}
use Rattle.tree_build.specs.internal.LeafItems.{KnowsItsMark, entry_of}
use Rattle.tree_build.proofs.leaf_item.old_items.Given as goal

-- the items so far, and those to come
abbrev pub invariant-loop-entry : goal.invariant-loop-entry
invariant-loop-entry l = record {
  whole : map entry_of l.items.items ++ l.entry-iterator ≡ l.fn.entries;
  known : EndsNoSooner Two is_marked_entry l.fn.entries → AllByRecursion KnowsItsMark l.items.items;
}
