-- Statements, as a tree.
-- Source: the Overpass QL page of the OpenStreetMap wiki, "Statements"; how a set is written and
-- printed there is not said here.
use Rattle.std.specs.Prelude.{ℕ, List, [], ◌∷◌, Option}
use Rattle.osm_model.specs.declared.out_mode.OutMode.{OutMode}
use Rattle.ql_syntax.specs.Filters.{Filter}
use Rattle.ql_syntax.specs.declared.pick.Pick.{Pick}
use Rattle.ql_syntax.specs.declared.recursion.Recursion.{Recursion}

-- the last field of each but Print is the name of the set that is written
mutual
  pub data Statement : Type 0 where
    -- a query statement: `node[k](w);`
    Select : Pick → List Filter → List ℕ → Statement
    -- a recursion from a set: `.a > ;`
    Recurse : List ℕ → Recursion → List ℕ → Statement
    -- a set: `.a;`
    Item : List ℕ → List ℕ → Statement
    -- `(a; b;);`
    Union : Statements → List ℕ → Statement
    -- `(a; - b;);`
    Minus : Statement → Statement → List ℕ → Statement
    -- a set is printed in a mode, at most so many objects: `.a out ids 10;`
    Print : List ℕ → OutMode → Option ℕ → Statement

  -- statements one after the other, of a query or of a union
  pub data Statements : Type 0 where
    End : Statements
    Then : Statement → Statements → Statements

-- those of a list
abbrev pub row_of : List Statement → Statements
row_of [] = End
row_of (statement ∷ statements) = Then statement (row_of statements)
