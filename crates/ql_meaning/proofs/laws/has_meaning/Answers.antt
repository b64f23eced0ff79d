use Rattle.ql_meaning.proofs.HavingMeaning.{has_meaning}
use Rattle.ql_meaning.proofs.laws.has_meaning.Goals as goal

pub returns : goal.returns
returns c = has_meaning
