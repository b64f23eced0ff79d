use Rattle.ql_eval.proofs.WorkLaws.{one_work}
use Rattle.ql_eval.proofs.laws.one_work.Goals as goal

pub returns : goal.returns
returns c = one_work
