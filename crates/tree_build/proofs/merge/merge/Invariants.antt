use Rattle.std.proofs.Common.{◌≡◌, ◌++◌, drop}
use Rattle.tree_build.specs.Changing.{changed}
use Rattle.tree_build.specs.internal.RisingChanges.{AreOwnAndRising}
use Rattle.tree_build.specs.internal.ItemChanges.{changes_in}
use Rattle.tree_build.proofs.merge.merge.Given as goal

-- what was merged, and what is left under the changes to come
abbrev pub invariant-loop-change : goal.invariant-loop-change
invariant-loop-change g l = record {
  whole : changed g.T.NodeItem.key_of l.fn.items (changes_in l.changes) ≡ l.merged.items ++ changed g.T.NodeItem.key_of l.rest (changes_in (drop l.change-index l.changes));
  rising : AreOwnAndRising g.T.NodeItem.key_of (changes_in (drop l.change-index l.changes));
}
