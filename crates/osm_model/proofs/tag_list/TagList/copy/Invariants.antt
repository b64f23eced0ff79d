use Rattle.std.proofs.Common.{◌≡◌, take}
use Rattle.osm_model.proofs.tag_list.TagList.copy.Given as goal

-- the tags so far are copied
abbrev pub invariant-loop-tag : goal.invariant-loop-tag
invariant-loop-tag l = l.tags.items ≡ take l.tag-index l.tag-items
