use Rattle.std.proofs.Common.{◌≡◌, ◌≤◌, ◌++◌, drop, length}
use Rattle.tree_node.specs.NodeRefs.{bindings_of}
use Rattle.tree_stream.specs.internal.Holding.{cut_entries, entry_total}
use Rattle.tree_stream.proofs.leaf.items_of.Given as goal

-- the entries so far, and those to come
abbrev pub invariant-loop-len : goal.invariant-loop-len
invariant-loop-len l = record {
  enough : entry_total (drop l.len-index l.lens) ≤ length l.rest;
  whole : bindings_of l.items.items ++ cut_entries (drop l.len-index l.lens) l.rest ≡ cut_entries l.lens l.bytes;
}
