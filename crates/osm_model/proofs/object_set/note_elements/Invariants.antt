use Rattle.std.proofs.Common.{All, take}
use Rattle.osm_model.specs.Limits.{IsElement}
use Rattle.osm_model.proofs.object_set.note_elements.Given as goal

abbrev pub invariant-loop-object : goal.invariant-loop-object
invariant-loop-object l = All IsElement (take l.object-index l.objects)
