use Rattle.ql_meaning.proofs.shared.MeaningLaws.{nwr_is_all}
use Rattle.ql_meaning.proofs.laws.nwr_is_all_kinds.Goals as goal

pub returns : goal.returns
returns c = nwr_is_all
