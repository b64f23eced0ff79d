use Rattle.std.proofs.Common.{subst}
use Rattle.std.specs.Str.{IsUtf8}
use Rattle.osm_model.proofs.text.note_utf8.Goals as goal

pub returns : goal.returns
returns c = subst IsUtf8 c.text.view_is c.as_str.ensures.utf8
