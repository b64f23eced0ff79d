use Rattle.std.proofs.Common.{take}
use Rattle.osm_model.specs.Elements.{references}
use Rattle.opl_codec.specs.internal.Loading.{HasJust}
use Rattle.opl_codec.proofs.references.references_of.Given as goal

abbrev pub invariant-loop-object : goal.invariant-loop-object
invariant-loop-object l = HasJust l.kept (references (take l.object-index l.objects))
