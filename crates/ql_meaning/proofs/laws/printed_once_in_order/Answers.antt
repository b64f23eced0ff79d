use Rattle.ql_meaning.proofs.shared.MeaningLaws.{printed_rise}
use Rattle.ql_meaning.proofs.laws.printed_once_in_order.Goals as goal

pub returns : goal.returns
returns c = printed_rise
