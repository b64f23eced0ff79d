use Rattle.ql_meaning.proofs.shared.MeaningLaws.{set_alone}
use Rattle.ql_meaning.proofs.laws.order_is_no_matter.Goals as goal

pub returns : goal.returns
returns c = set_alone
