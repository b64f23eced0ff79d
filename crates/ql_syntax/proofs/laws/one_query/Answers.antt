use Rattle.ql_syntax.proofs.shared.QueryLaws.{one_query}
use Rattle.ql_syntax.proofs.laws.one_query.Goals as goal

pub returns : goal.returns
returns c = one_query
