use Rattle.std.proofs.Common.{◌≡◌, take}
use Rattle.std.specs.List.{AllByRecursion}
use Rattle.tree_build.specs.Rebuilding.{changes_of}
use Rattle.tree_build.specs.internal.ItemChanges.{PutsKnown, changes_meant}
use Rattle.tree_build.specs.internal.LeafItems.{KnowsItsMark, entry_of}
use Rattle.tree_build.proofs.levels.item_changes.Given as goal

-- the changes so far
abbrev pub invariant-loop-change : goal.invariant-loop-change
invariant-loop-change l = record {
  meant : changes_meant entry_of l.items.items ≡ changes_of (take l.change-index l.changes);
  known : AllByRecursion (PutsKnown KnowsItsMark) l.items.items;
}
