use Rattle.std.proofs.Common.{◌≡◌, ◌≤◌, ◌++◌, drop, length}
use Rattle.tree_node.specs.NodeRefs.{links_of}
use Rattle.tree_stream.specs.internal.Holding.{cut_links, link_total}
use Rattle.tree_stream.proofs.level.children_of.Given as goal

-- the items so far, and those to come
abbrev pub invariant-loop-row : goal.invariant-loop-row
invariant-loop-row l = record {
  enough : link_total (drop l.row-index l.rows) ≤ length l.rest;
  whole : links_of l.children.items ++ cut_links (drop l.row-index l.rows) l.rest ≡ cut_links l.rows l.keys;
}
