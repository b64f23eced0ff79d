use Rattle.std.proofs.Common.{◌≡◌, List, take}
use Rattle.osm_model.specs.Elements.{Element}
use Rattle.tree_node.specs.NodeRefs.{bindings_of}
use Rattle.osm_index.specs.internal.HeldTrees.{AreObjectEntries}
use Rattle.osm_index.proofs.all_objects.read_objects.Given as goal

-- the objects so far
abbrev pub invariant-loop-entry : goal.invariant-loop-entry
invariant-loop-entry l = (objects : List Element) → AreObjectEntries objects (bindings_of l.entries) → l.objects.items ≡ take l.entry-index objects
