use Rattle.std.proofs.Common.{take}
use Rattle.std.specs.List.{flat_map}
use Rattle.osm_index.specs.internal.Listing.{Gains, entries_from}
use Rattle.osm_index.proofs.listing.append_objects.Given as goal

abbrev pub invariant-loop-object : goal.invariant-loop-object
invariant-loop-object l = Gains l.fn.bytes.items l.bytes.items l.fn.spans.items l.spans.items (flat_map (entries_from l.fn.tree) (take l.object-index l.objects))
