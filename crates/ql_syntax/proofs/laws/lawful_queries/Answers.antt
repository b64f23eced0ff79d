use Rattle.ql_syntax.proofs.shared.QueryLaws.{lawful}
use Rattle.ql_syntax.proofs.laws.lawful_queries.Goals as goal

pub returns : goal.returns
returns c = lawful
