use Rattle.std.proofs.Common.{◌≡◌, map, take}
use Rattle.tree_node.specs.Parts.{node_of}
use Rattle.outside_shelf.specs.Copies.{bytes_of}
use Rattle.outside_shelf.proofs.copies.copies.Given as goal

-- the parts so far are copied
abbrev pub invariant-loop-part : goal.invariant-loop-part
invariant-loop-part l = map bytes_of l.nodes.items ≡ map node_of (take l.part-index l.parts)
