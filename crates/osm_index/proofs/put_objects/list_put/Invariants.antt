use Rattle.std.proofs.Common.{◌≡◌, take}
use Rattle.std.specs.List.{filter_map}
use Rattle.osm_index.specs.internal.Applying.{put_in}
use Rattle.osm_index.proofs.put_objects.list_put.Given as goal

abbrev pub invariant-loop-change : goal.invariant-loop-change
invariant-loop-change l = l.puts.items ≡ filter_map put_in (take l.change-index l.changes)
