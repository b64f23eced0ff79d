use Rattle.std.proofs.Common.{map, take}
use Rattle.light_index.specs.internal.LightListing.{Gains, tag_of}
use Rattle.light_index.proofs.light_listing.append_tags.Given as goal

abbrev pub invariant-loop-tag : goal.invariant-loop-tag
invariant-loop-tag l = Gains l.fn.bytes.items l.bytes.items l.fn.spans.items l.spans.items (map (tag_of l.fn.name l.fn.line.0) (take l.tag-index l.tags))
