use Rattle.std.proofs.Common.{◌≡◌, ◌++◌, map, take}
use Rattle.tree_build.specs.Rebuilding.{changes_of}
use Rattle.tree_node.specs.NodeRefs.{bindings_of}
use Rattle.osm_index.specs.internal.EntryChanges.{put_of}
use Rattle.osm_index.proofs.entry_changes.put_all.Given as goal

abbrev pub invariant-loop-entry : goal.invariant-loop-entry
invariant-loop-entry l = changes_of l.changes.items ≡ changes_of l.fn.changes.items ++ map put_of (bindings_of (take l.entry-index l.entries))
