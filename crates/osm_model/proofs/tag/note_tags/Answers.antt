use Rattle.std.proofs.Common.{subst}
use Rattle.std.proofs.lemmas.List.{take_all}
use Rattle.std.proofs.lemmas.List.Elements.{All-more}
use Rattle.std.specs.Str.{IsUtf8}
use Rattle.osm_model.specs.declared.tag.Tag.{Tag}
use Rattle.osm_model.proofs.tag.note_tags.Goals as goal

pub loop-tag-preserved : goal.loop-tag-preserved
loop-tag-preserved c =
    All-more (λ (tag : Tag). IsUtf8 tag.key × IsUtf8 tag.value) c.args.tags.now c.loop-tag.tag-index c.tag-item.result c.loop-tag-test.true c.loop-tag.invariant
    (subst (λ (tag : Tag). IsUtf8 tag.key × IsUtf8 tag.value) c.tag-item.is (c.note_utf8.ensures, c.note_utf8-in-loop-tag.ensures))

pub returns : goal.returns
returns c = rw (take_all c.loop-tag.tag-index c.args.tags.now c.loop-tag-test.false) at c.loop-tag.invariant
