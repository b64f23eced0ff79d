use Rattle.std.proofs.Common.{◌≡◌, ◌++◌, map}
use Rattle.tree_node.specs.Nodes.{Link}
use Rattle.node_pack.specs.Packs.{digests_of}
use Rattle.node_pack.proofs.children.list_links.Given as goal

-- the digests so far, and those to come
abbrev pub invariant-loop-link : goal.invariant-loop-link
invariant-loop-link l =
    digests_of l.children.items ++ map (λ (link : Link). link.child) l.link-iterator ≡ digests_of l.fn.children.items ++ map (λ (link : Link). link.child) l.fn.links
