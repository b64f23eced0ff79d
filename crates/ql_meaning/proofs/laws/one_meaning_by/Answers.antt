use Rattle.ql_meaning.proofs.shared.MeaningLaws.{one_meaning_by}
use Rattle.ql_meaning.proofs.laws.one_meaning_by.Goals as goal

pub returns : goal.returns
returns c = one_meaning_by
