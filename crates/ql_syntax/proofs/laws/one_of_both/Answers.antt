use Rattle.ql_syntax.proofs.shared.QueryLaws.{one_of_both}
use Rattle.ql_syntax.proofs.laws.one_of_both.Goals as goal

pub returns : goal.returns
returns c = one_of_both
