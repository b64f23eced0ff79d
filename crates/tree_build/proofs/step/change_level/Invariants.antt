use Rattle.std.proofs.Common.{◌-◌, ◌<◌, ◌≤◌, ◌≡◌, [], List, length, map, drop, ◌⊎◌, ℕ, take}
use Rattle.tree_node.specs.NodeRefs.{number_of}
use Rattle.tree_node.specs.Nodes.{Binding}
use Rattle.tree_node.specs.Shelves.{Stays}
use Rattle.tree_node.specs.Trees.{Two, ends_by, levels}
use Rattle.tree_build.specs.StrangeShelves.{HasNoTwin}
use Rattle.tree_build.specs.internal.Holding.{IsHeldLevel, IsOnWayTo}
use Rattle.tree_build.specs.internal.ItemChanges.{changes_meant}
use Rattle.tree_build.specs.internal.Steps.{CanChange, HaveReasons, changed_nodes, keys_changed, nodes_at}
use Rattle.tree_build.proofs.StepStates.{StepState}
use Rattle.tree_build.proofs.step.change_level.Given as goal

abbrev pub invariant-loop-wanted : goal.invariant-loop-wanted
invariant-loop-wanted g l = record {
  stays : Stays g.S.Shelf.is_fixed (g.S.Shelf.holds l.fn.shelf) (g.S.Shelf.holds l.shelf);
  grows : (bytes : List _) → g.S.Shelf.used l.fn.shelf bytes → g.S.Shelf.used l.shelf bytes;
  used : (entries : List Binding) → IsHeldLevel (HasNoTwin (g.S.Shelf.used l.shelf)) l.place.top.0 (number_of l.place.tree) l.place.level entries
      → (bytes : List ℕ) → g.S.Shelf.used l.shelf bytes → g.S.Shelf.used l.fn.shelf bytes ⊎ IsOnWayTo (levels Two (number_of l.place.tree) entries) l.place.level l.work.olds.items bytes;
  state : (entries : List Binding) → CanChange (HasNoTwin (g.S.Shelf.used l.shelf)) l.place g.T.NodeItem.key_in g.T.NodeItem.marked_in g.T.NodeItem.items_in g.T.NodeItem.node_over g.T.NodeItem.Fit entries (changes_meant g.T.NodeItem.meaning l.changes)
      → StepState g.T.NodeItem.key_in (ends_by Two g.T.NodeItem.marked_in) g.T.NodeItem.items_in (g.T.NodeItem.node_over (number_of l.place.tree) l.place.level) g.T.NodeItem.Fit (nodes_at l.place entries) (changes_meant g.T.NodeItem.meaning l.changes)
      l.work.olds.items l.work.news.items (map g.T.NodeItem.meaning l.work.pending.items) (changes_meant g.T.NodeItem.meaning (drop l.done l.changes));
  reasons : (entries : List Binding) → CanChange (HasNoTwin (g.S.Shelf.used l.shelf)) l.place g.T.NodeItem.key_in g.T.NodeItem.marked_in g.T.NodeItem.items_in g.T.NodeItem.node_over g.T.NodeItem.Fit entries (changes_meant g.T.NodeItem.meaning l.changes)
      → HaveReasons (nodes_at l.place entries) (changed_nodes l.place g.T.NodeItem.key_in g.T.NodeItem.marked_in g.T.NodeItem.items_in g.T.NodeItem.node_over entries (changes_meant g.T.NodeItem.meaning l.changes))
      (keys_changed (changes_meant g.T.NodeItem.meaning l.changes)) (keys_changed (changes_meant g.T.NodeItem.meaning (take l.done l.changes))) l.work.olds.items;
  opened : (1 ≤ length l.work.olds.items) ⊎ ((l.done ≡ 0) × (l.work.pending.items ≡ []));
  few : length l.work.pending.items < 64;
  within : l.done ≤ length l.changes;
}

abbrev pub decreases-loop-wanted : goal.decreases-loop-wanted
decreases-loop-wanted g l = 536870912 - length l.work.olds.items
