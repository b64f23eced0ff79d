-- The trees of unions and differences.
use Rattle.std.proofs.Common.{◌≡◌, List, ℕ, ap, refl, rules, ◌∙◌}
use Rattle.std.specs.declared.alloc.Global.{Global}
use Rattle.std.specs.declared.vec.Vec.{Vec}
use Rattle.ql_syntax.specs.StatementViews as views
use Rattle.ql_syntax.specs.StatementViews.{statement_of, statements_of}
use Rattle.ql_syntax.specs.Statements as tree
use Rattle.ql_syntax.specs.declared.statement.Stmt.{Stmt, Row_of-Stmt, end_of-Stmt, more_of-Stmt, items-the_row-Stmt}
use Rattle.ql_syntax.specs.declared.statement.Stmt.TheViews.{Union, the_lemmas}

-- the statements of a union, as they lie in memory
pub row_is : (n : _) (parts : Row_of-Stmt n) → views.row_of parts ≡ statements_of (items-the_row-Stmt n parts)
row_is n end_of-Stmt = refl
row_is n (more_of-Stmt part rest) = ap (λ (more : tree.Statements). tree.Then (statement_of part) more) (row_is _ rest)

pub union_is : (parts : Vec Stmt Global) (into : List ℕ) → statement_of (Union parts into) ≡ tree.Union (statements_of parts.items) into
union_is parts into = search (rules, the_lemmas, row_is)

pub minus_is : {left first right second : Stmt} → left ≡ first → right ≡ second → (into : List ℕ) → tree.Minus (statement_of left) (statement_of right) into ≡ tree.Minus (statement_of first) (statement_of second) into
minus_is {first = first} {right = right} l r into =
    ap (λ (x : Stmt). tree.Minus (statement_of x) (statement_of right) into) l ∙ ap (λ (x : Stmt). tree.Minus (statement_of first) (statement_of x) into) r
