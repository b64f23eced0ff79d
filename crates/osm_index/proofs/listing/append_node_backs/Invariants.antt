use Rattle.std.proofs.Common.{map, take}
use Rattle.osm_index.specs.internal.Listing.{Gains, node_back}
use Rattle.osm_index.proofs.listing.append_node_backs.Given as goal

abbrev pub invariant-loop-id : goal.invariant-loop-id
invariant-loop-id l = Gains l.fn.bytes.items l.bytes.items l.fn.spans.items l.spans.items (map (node_back l.fn.name) (take l.id-index l.nodes))
