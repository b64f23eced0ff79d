-- The sets that the statements of a query write, those within unions and differences too.
-- Source: this project.
use Rattle.std.specs.Prelude.{◌≡◌, ◌⊎◌, List}
use Rattle.osm_model.specs.Elements.{Element}
use Rattle.osm_model.specs.declared.reference.Ref.{Ref}
use Rattle.ql_syntax.specs.Statements.{Statement, Statements, Select, Recurse, Item, Union, Minus, Print, End, Then}
use Rattle.ql_meaning.specs.Meanings.{After, given_by}
use Rattle.ref_sets.specs.NamedSets.{Env}

-- the statement writes the set, or it is written within it
abbrev pub IsWrittenOr : List Element → Statement → Env → List Ref → Type 0 → Type 0
IsWrittenOr objects statement env set Within = Within ⊎ ((later : Env) × After objects statement env later × (set ≡ given_by statement later))

abbrev mutual
  -- a statement within this one writes the set
  pub IsWrittenWithin : List Element → Statement → Env → List Ref → Type 0
  IsWrittenWithin objects (Select pick filters into) env set = ⊥
  IsWrittenWithin objects (Recurse start how into) env set = ⊥
  IsWrittenWithin objects (Item start into) env set = ⊥
  IsWrittenWithin objects (Union parts into) env set = IsWrittenIn objects parts env set
  IsWrittenWithin objects (Minus left right into) env set =
      IsWrittenOr objects left env set (IsWrittenWithin objects left env set)
      ⊎ ((mid : Env) × After objects left env mid × IsWrittenOr objects right mid set (IsWrittenWithin objects right mid set))
  IsWrittenWithin objects (Print start mode limit) env set = ⊥

  -- one of these statements writes the set, or one within it
  pub IsWrittenIn : List Element → Statements → Env → List Ref → Type 0
  IsWrittenIn objects End env set = ⊥
  IsWrittenIn objects (Then statement statements) env set =
      IsWrittenOr objects statement env set (IsWrittenWithin objects statement env set)
      ⊎ ((later : Env) × After objects statement env later × IsWrittenIn objects statements later set)
