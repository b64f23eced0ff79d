use Rattle.std.proofs.Common.{length, take}
use Rattle.std.specs.List.{flat_map}
use Rattle.light_index.specs.internal.LightListing.{Gains, light_entries_from}
use Rattle.light_index.proofs.light_listing.append_objects.Given as goal

abbrev pub invariant-loop-object : goal.invariant-loop-object
invariant-loop-object l = Gains l.fn.bytes.items l.bytes.items l.fn.spans.items l.spans.items (flat_map (light_entries_from l.fn.tree) (take (length l.yielded) l.objects))
