use Rattle.ql_syntax.proofs.shared.QueryLaws.{not_memory}
use Rattle.ql_syntax.proofs.laws.faults_are_not_memory.Goals as goal

pub returns : goal.returns
returns c = not_memory
