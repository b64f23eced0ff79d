use Rattle.std.proofs.Common.{◌≡◌, ◌++◌, None, map, drop}
use Rattle.tree_node.specs.NodeRefs.{link_of}
use Rattle.tree_build.specs.internal.ItemChanges.{changes_meant}
use Rattle.tree_build.proofs.parent_changes.push_gone.Given as goal

-- the changes so far, and those to come
abbrev pub invariant-loop-old : goal.invariant-loop-old
invariant-loop-old l =
    changes_meant link_of l.changes.items ++ map (λ old. record { key = old.greatest.now; put = None }) (drop l.old-index l.olds)
    ≡ changes_meant link_of l.fn.changes.items ++ map (λ old. record { key = old.greatest.now; put = None }) l.olds
