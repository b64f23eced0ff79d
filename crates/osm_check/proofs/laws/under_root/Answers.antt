use Rattle.osm_check.proofs.OneVerdict.{under_root}
use Rattle.osm_check.proofs.laws.under_root.Goals as goal

pub returns : goal.returns
returns c = λ query answer proof p verdict is h. under_root query answer proof p is verdict h
