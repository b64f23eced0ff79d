use Rattle.tree_node.specs.NodeRefs.{bindings_of}
use Rattle.osm_index.proofs.PackedLemmas.{IsLent}
use Rattle.osm_index.proofs.entry_list.lend.Given as goal

abbrev pub invariant-loop-span : goal.invariant-loop-span
invariant-loop-span l = IsLent l.spans l.bytes (bindings_of l.entries.items) l.span-index l.rest
