use Rattle.std.proofs.Common.{subst, sym}
use Rattle.tree_node.specs.Nodes.{AreBytes}
use Rattle.outside_shelf.proofs.outside.OutsideShelf.give.Goals as goal

pub remember-requires-clause-bytes : goal.remember-requires-clause-bytes
remember-requires-clause-bytes g c = subst AreBytes (sym c.new.ensures) c.bytes_law.ensures
