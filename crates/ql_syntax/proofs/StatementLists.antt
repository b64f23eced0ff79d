-- Statements as they are gathered, and as a query or a union has them.
use Rattle.std.proofs.Common.{◌≡◌, ℕ, List, [], ◌∷◌, Result, refl, sym, ◌∙◌, ap}
use Rattle.std.specs.declared.alloc.Global.{Global}
use Rattle.std.specs.declared.vec.Vec.{Vec}
use Rattle.ql_syntax.specs.Rules.{◌>>=◌, give, gather, First}
use Rattle.ql_syntax.specs.StatementRules.{top_statement}
use Rattle.ql_syntax.specs.StatementViews.{statement_of, statements_of}
use Rattle.ql_syntax.specs.Statements as tree
use Rattle.ql_syntax.specs.Statements.{Statement, row_of}
use Rattle.ql_syntax.specs.declared.statement.Stmt.{Stmt}
use Rattle.ql_syntax.specs.declared.statement.Stmt.TheViews.{Union}
use Rattle.ql_syntax.specs.declared.syntax_error.SyntaxError.{SyntaxError}
use Rattle.ql_syntax.specs.internal.Following.{Follows, Read, Stopped, NoMemory}
use Rattle.ql_syntax.specs.internal.StatementReaders.{trees_of, the_query, the_statements}
use Rattle.ql_syntax.proofs.shared.StatementTrees.{union_is}

row_of_trees : (all : List Stmt) → row_of (trees_of all) ≡ statements_of all
row_of_trees [] = refl
row_of_trees (s ∷ all) = ap (λ (more : tree.Statements). tree.Then (statement_of s) more) (row_of_trees all)

pub union_row : (parts : Vec Stmt Global) (into : List ℕ) → statement_of (Union parts into) ≡ tree.Union (row_of (trees_of parts.items)) into
union_row parts into = union_is parts into ∙ ap (λ (row : tree.Statements). tree.Union row into) (sym (row_of_trees parts.items))

-- a reader of the statements of a query gives them as the query has them
pub follows_row : {text : List ℕ} {r : Result _ SyntaxError} → Follows (gather top_statement []) the_statements text r → Follows (gather top_statement [] >>= (λ (all : List Statement). give (row_of all))) the_query text r
unfolding ◌>>=◌ give
follows_row (Read x same reads) = Read x same (record { front = (the_statements x).0; middle = (the_statements x).1; front_reads = reads; back_reads = (sym (row_of_trees (x.0).items), refl) })
follows_row (Stopped stop same stops) = Stopped stop same (First stops)
follows_row (NoMemory scarce stop same memory) = NoMemory scarce stop same memory
