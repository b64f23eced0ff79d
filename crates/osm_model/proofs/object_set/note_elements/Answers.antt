use Rattle.std.proofs.Common.{subst}
use Rattle.std.proofs.lemmas.List.{take_all}
use Rattle.std.proofs.lemmas.List.Elements.{All-more}
use Rattle.osm_model.specs.Limits.{IsElement}
use Rattle.osm_model.proofs.object_set.note_elements.Goals as goal

pub loop-object-preserved : goal.loop-object-preserved
loop-object-preserved c =
    All-more IsElement c.args.objects.now c.loop-object.object-index c.object-item.result c.loop-object-test.true c.loop-object.invariant
    (subst IsElement c.object-item.is c.id.ensures.element)

pub returns : goal.returns
returns c = rw (take_all c.loop-object.object-index c.args.objects.now c.loop-object-test.false) at c.loop-object.invariant
