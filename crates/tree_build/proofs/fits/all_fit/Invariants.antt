use Rattle.std.proofs.Common.{drop, map}
use Rattle.tree_node.specs.Trees.{FitsTree}
use Rattle.tree_build.specs.internal.LeafItems.{entry_of}
use Rattle.tree_build.proofs.FitChecks.{AllLeft}
use Rattle.tree_build.proofs.fits.all_fit.Given as goal

-- those so far fit
abbrev pub invariant-loop-item : goal.invariant-loop-item
invariant-loop-item l = AllLeft FitsTree (map entry_of l.items) (map entry_of (drop l.item-index l.items))
