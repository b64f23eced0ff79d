use Rattle.osm_desk.proofs.MadeLemmas.{not_both, one_made, one_refusal}
use Rattle.osm_desk.proofs.laws.one_outcome.Goals as goal

pub returns-clause-made : goal.returns-clause-made
returns-clause-made c = λ p q r all is are. one_made p all q r is are

pub returns-clause-apart : goal.returns-clause-apart
returns-clause-apart c = λ p q all fault is refused. not_both p all q fault is refused

pub returns-clause-refused : goal.returns-clause-refused
returns-clause-refused c = λ p all fault other is are. one_refusal p all fault other is are
