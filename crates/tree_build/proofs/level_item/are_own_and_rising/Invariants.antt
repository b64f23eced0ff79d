use Rattle.std.proofs.Common.{drop}
use Rattle.std.specs.Option.{option_copied}
use Rattle.tree_build.specs.internal.ItemChanges.{changes_meant}
use Rattle.tree_build.proofs.FitChecks.{RisingLeft}
use Rattle.tree_build.proofs.level_item.are_own_and_rising.Given as goal

-- those so far rise and are own
abbrev pub invariant-loop-change : goal.invariant-loop-change
invariant-loop-change g l = RisingLeft g.T.NodeItem.key_in (changes_meant g.T.NodeItem.meaning l.changes) (option_copied l.before) (changes_meant g.T.NodeItem.meaning (drop l.change-index l.changes))
