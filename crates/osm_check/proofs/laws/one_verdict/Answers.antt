use Rattle.osm_check.proofs.OneVerdict.{one_verdict}
use Rattle.osm_check.proofs.laws.one_verdict.Goals as goal

pub returns : goal.returns
returns c = λ query answer proof p first second is h k. one_verdict query answer proof p is first second h k
