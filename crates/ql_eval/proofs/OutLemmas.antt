-- Which statements of a query are outs, and that others print nothing.
use Rattle.std.proofs.Common.{◌≡◌, List, [], refl}
use Rattle.osm_model.specs.Elements.{Element}
use Rattle.ql_syntax.specs.StatementViews.{statement_of}
use Rattle.ql_syntax.specs.Statements as tree
use Rattle.ql_syntax.specs.declared.statement.Out.{Out}
use Rattle.ql_syntax.specs.declared.statement.Stmt.{Stmt, Select, Recurse, Item, Union', Minus', Print}
use Rattle.ql_meaning.specs.Meanings.{Telling, told_by}
use Rattle.ref_sets.specs.NamedSets.{Env}
use Rattle.ql_eval.specs.internal.Lawful.{CanRun}
use Rattle.ql_eval.proofs.StatementLemmas.{IsOut}

pub no_out : (statement : Stmt) → ((out : Out) → statement ≡ Print out → ⊥) → IsOut (statement_of statement) → ⊥
no_out (Select kind filters into) other is = is
no_out (Recurse start how into) other is = is
no_out (Item start into) other is = is
no_out (Union' shape parts into) other is = is
no_out (Minus' p left q right into) other is = is
no_out (Print out) other is = other out refl

pub told_nothing : (tell : Telling) (objects : List Element) (statement : tree.Statement) (env : Env) → CanRun statement → told_by tell objects statement env ≡ []
told_nothing tell objects (tree.Select pick filters into) env can = refl
told_nothing tell objects (tree.Recurse start how into) env can = refl
told_nothing tell objects (tree.Item start into) env can = refl
told_nothing tell objects (tree.Union parts into) env can = refl
told_nothing tell objects (tree.Minus left right into) env can = refl
told_nothing tell objects (tree.Print start mode limit) env can = absurd can
