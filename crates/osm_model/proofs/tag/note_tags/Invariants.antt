use Rattle.std.proofs.Common.{All, take}
use Rattle.std.specs.Str.{IsUtf8}
use Rattle.osm_model.specs.declared.tag.Tag.{Tag}
use Rattle.osm_model.proofs.tag.note_tags.Given as goal

abbrev pub invariant-loop-tag : goal.invariant-loop-tag
invariant-loop-tag l = All (λ (tag : Tag). IsUtf8 tag.key × IsUtf8 tag.value) (take l.tag-index l.tags)
