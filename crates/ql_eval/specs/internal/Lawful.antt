-- Statements that write sets, and whose filters suit their kinds and have no NUL in keys and values.
use Rattle.std.specs.Prelude.{⊤}
use Rattle.std.specs.List.{AllByRecursion}
use Rattle.ql_syntax.specs.LawfulQueries.{Allows}
use Rattle.ql_syntax.specs.Statements.{Statement, Statements, Select, Recurse, Item, Union, Minus, Print, End, Then}

abbrev mutual
  pub CanRun : Statement → Type 0
  CanRun (Select pick filters into) = AllByRecursion (Allows pick) filters
  CanRun (Recurse start how into) = ⊤
  CanRun (Item start into) = ⊤
  CanRun (Union parts into) = CanRunAll parts
  CanRun (Minus left right into) = CanRun left × CanRun right
  CanRun (Print start mode limit) = ⊥

  pub CanRunAll : Statements → Type 0
  CanRunAll End = ⊤
  CanRunAll (Then statement statements) = CanRun statement × CanRunAll statements
