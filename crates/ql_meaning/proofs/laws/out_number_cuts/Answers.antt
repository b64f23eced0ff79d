use Rattle.ql_meaning.proofs.shared.MeaningLaws.{number_cuts}
use Rattle.ql_meaning.proofs.laws.out_number_cuts.Goals as goal

pub returns : goal.returns
returns c = number_cuts
