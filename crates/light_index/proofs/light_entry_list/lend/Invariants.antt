use Rattle.tree_node.specs.NodeRefs.{bindings_of}
use Rattle.light_index.proofs.LightPackedLemmas.{IsLent}
use Rattle.light_index.proofs.light_entry_list.lend.Given as goal

abbrev pub invariant-loop-span : goal.invariant-loop-span
invariant-loop-span l = IsLent l.spans l.bytes (bindings_of l.entries.items) l.span-index l.rest
