use Rattle.ql_meaning.proofs.shared.MeaningLaws.{one_meaning}
use Rattle.ql_meaning.proofs.laws.one_meaning.Goals as goal

pub returns : goal.returns
returns c = one_meaning
