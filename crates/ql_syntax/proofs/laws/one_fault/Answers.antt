use Rattle.ql_syntax.proofs.shared.QueryLaws.{one_fault}
use Rattle.ql_syntax.proofs.laws.one_fault.Goals as goal

pub returns : goal.returns
returns c = one_fault
