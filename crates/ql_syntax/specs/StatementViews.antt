-- What crates above see of a query: the trees of its statements and filters, without where they lie in
-- memory.
-- Source: this project.
use Rattle.std.specs.Box.{box_value}
use Rattle.std.specs.Prelude.{List, [], ◌∷◌, map}
use Rattle.ql_syntax.specs.Filters as filter_tree
use Rattle.ql_syntax.specs.Statements as tree
use Rattle.ql_syntax.specs.declared.filter.Filter.{Filter}
use Rattle.ql_syntax.specs.declared.filter.Filter.TheVariants as filters
use Rattle.ql_syntax.specs.declared.statement.Stmt.{Stmt, Select, Recurse, Item, Union', Minus', Print, Row_of-Stmt, end_of-Stmt, more_of-Stmt}

abbrev pub filter_of : Filter → filter_tree.Filter
filter_of (filters.InSet name) = filter_tree.InSet name
filter_of (filters.HasKey key) = filter_tree.HasKey key
filter_of (filters.KeyIs key value) = filter_tree.KeyIs key value
filter_of (filters.LacksKey key) = filter_tree.LacksKey key
filter_of (filters.KeyIsNot key value) = filter_tree.KeyIsNot key value
filter_of (filters.Ids ids) = filter_tree.Ids ids.items
filter_of (filters.Within area) = filter_tree.Within (box_value area)
filter_of (filters.Via path name) = filter_tree.Via path name

abbrev pub filters_of : List Filter → List filter_tree.Filter
filters_of = map filter_of

abbrev mutual
  pub statement_of : Stmt → tree.Statement
  statement_of (Select kind filters into) = tree.Select kind (filters_of filters.items) into
  statement_of (Recurse start how into) = tree.Recurse start how into
  statement_of (Item start into) = tree.Item start into
  statement_of (Union' shape parts into) = tree.Union (row_of parts) into
  statement_of (Minus' p left q right into) = tree.Minus (statement_of left) (statement_of right) into
  statement_of (Print out) = tree.Print out.from out.mode out.limit

  pub row_of : {m : _} → Row_of-Stmt m → tree.Statements
  row_of end_of-Stmt = tree.End
  row_of (more_of-Stmt part rest) = tree.Then (statement_of part) (row_of rest)

-- the statements of a query, or of a union
abbrev pub statements_of : List Stmt → tree.Statements
statements_of [] = tree.End
statements_of (statement ∷ statements) = tree.Then (statement_of statement) (statements_of statements)
