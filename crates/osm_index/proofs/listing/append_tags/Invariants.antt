use Rattle.std.proofs.Common.{map, take}
use Rattle.osm_index.specs.internal.Listing.{Gains, tag_of}
use Rattle.osm_index.proofs.listing.append_tags.Given as goal

abbrev pub invariant-loop-tag : goal.invariant-loop-tag
invariant-loop-tag l = Gains l.fn.bytes.items l.bytes.items l.fn.spans.items l.spans.items (map (tag_of l.fn.name) (take l.tag-index l.tags))
