-- What the readers of statements give, without where it lies in memory.
use Rattle.std.specs.Borrow.{Bor}
use Rattle.std.specs.Prelude.{ℕ, List, Option, None, Some, map}
use Rattle.std.specs.declared.alloc.Global.{Global}
use Rattle.std.specs.declared.vec.Vec.{Vec}
use Rattle.ql_syntax.specs.StatementViews.{statement_of, statements_of}
use Rattle.ql_syntax.specs.Statements as tree
use Rattle.ql_syntax.specs.declared.statement.Stmt.{Stmt}

abbrev pub the_statement : (Stmt × Bor (List ℕ)) → tree.Statement × List ℕ
the_statement found = (statement_of found.0, found.1.now)

-- no statement, or one
abbrev pub other_statement : Option Stmt → Option tree.Statement
other_statement None = None
other_statement (Some statement) = Some (statement_of statement)

abbrev pub the_other_statement : (Option Stmt × Bor (List ℕ)) → Option tree.Statement × List ℕ
the_other_statement found = (other_statement found.0, found.1.now)

-- those that are gathered
abbrev pub trees_of : List Stmt → List tree.Statement
trees_of = map statement_of

abbrev pub the_statements : (Vec Stmt Global × Bor (List ℕ)) → List tree.Statement × List ℕ
the_statements found = (trees_of found.0.items, found.1.now)

-- the statements of a query
abbrev pub the_query : (Vec Stmt Global × Bor (List ℕ)) → tree.Statements × List ℕ
the_query found = (statements_of found.0.items, found.1.now)
