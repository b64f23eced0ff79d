use Rattle.std.proofs.Common.{map, take}
use Rattle.light_index.specs.internal.LightListing.{Gains, node_back}
use Rattle.light_index.proofs.light_listing.append_node_backs.Given as goal

abbrev pub invariant-loop-id : goal.invariant-loop-id
invariant-loop-id l = Gains l.fn.bytes.items l.bytes.items l.fn.spans.items l.spans.items (map (node_back l.fn.name l.fn.line.0) (take l.id-index l.nodes))
