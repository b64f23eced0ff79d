-- The work of a query is that of the statements that it reads as.
use Rattle.std.proofs.Common.{ℕ, List, Option, subst}
use Rattle.osm_keys.specs.Publications.{Publication}
use Rattle.ql_syntax.specs.Queries.{Reads}
use Rattle.ql_syntax.specs.Statements.{Statements}
use Rattle.ql_syntax.proofs.shared.QueryLaws.{one_query}
use Rattle.ql_meaning.specs.Meanings.{Telling}
use Rattle.ql_eval.specs.Work.{WorkOfQuery}
use Rattle.osm_prove.specs.Budgets.{IsTooMuch, IsWorkOf}

module _ (tell : Telling) (p : Publication) (query : List ℕ) (statements : Statements) (reads : Reads query statements) where
  pub of_query : (n : ℕ) → WorkOfQuery tell p statements n → IsWorkOf tell p query n
  of_query n work = record { statements = statements; reads = reads; work = work }

  pub of_statements : (n : ℕ) → IsWorkOf tell p query n → WorkOfQuery tell p statements n
  of_statements n of = subst (λ (s : Statements). WorkOfQuery tell p s n) (one_query query of.statements statements of.reads reads) of.work

  pub query_too_much : (most : Option ℕ) → IsTooMuch (WorkOfQuery tell p statements) most → IsTooMuch (IsWorkOf tell p query) most
  query_too_much most over n work = over n (of_statements n work)
