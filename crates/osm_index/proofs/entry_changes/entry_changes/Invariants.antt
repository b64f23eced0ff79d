use Rattle.std.proofs.Common.{◌≡◌, ◌≤◌, ◌++◌, length, drop}
use Rattle.tree_build.specs.Rebuilding.{changes_of}
use Rattle.tree_node.specs.NodeRefs.{bindings_of}
use Rattle.osm_index.proofs.EntryTurns.{turns}
use Rattle.osm_index.proofs.entry_changes.entry_changes.Given as goal

-- the changes so far, and those that are left
abbrev pub invariant-loop-entry : goal.invariant-loop-entry
invariant-loop-entry l = record {
  within : l.at ≤ length l.new;
  whole : turns (bindings_of l.old) (bindings_of l.new) ≡ changes_of l.changes.items ++ turns (bindings_of (drop l.entry-index l.old)) (bindings_of (drop l.at l.new));
}
