use Rattle.std.proofs.Common.{refl}
use Rattle.osm_gate.proofs.laws.nothing_after_the_end.Goals as goal

pub returns : goal.returns
returns c = λ rest piece is. rw is (refl, refl)
