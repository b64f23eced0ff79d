use Rattle.ql_syntax.proofs.RuleLemmas.{follows_stop, follows_then}
use Rattle.ql_syntax.proofs.StatementLists.{follows_row}
use Rattle.ql_syntax.specs.Queries.{query}
use Rattle.ql_syntax.proofs.parser.read_query.Goals as goal

pub returns-in_err-rest : goal.returns-in_err-rest
unfolding query
returns-in_err-rest c = follows_stop _ c.in_err-rest.ensures c.from_residual.ensures.1

pub returns : goal.returns
unfolding query
returns c = follows_then _ c.in_ok-rest.ensures (follows_row c.read_statements.ensures)
