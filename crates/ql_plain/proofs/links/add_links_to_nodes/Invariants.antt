use Rattle.std.proofs.Common.{take}
use Rattle.ref_sets.specs.Adding.{Adds, From}
use Rattle.ql_plain.specs.internal.Linked.{IsLinkToNode}
use Rattle.ql_plain.proofs.links.add_links_to_nodes.Given as goal

abbrev pub invariant-loop-id : goal.invariant-loop-id
invariant-loop-id l = Adds l.fn.links.items l.links.items (From (take l.id-index l.nodes) (IsLinkToNode l.set l.parent))
