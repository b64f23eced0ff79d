use Rattle.ql_syntax.proofs.shared.QueryLaws.{fault_within}
use Rattle.ql_syntax.proofs.laws.fault_place.Goals as goal

pub returns : goal.returns
returns c = fault_within
