-- What every query keeps: boxes and paths on the kinds that allow them, one id or more in a list of ids and
-- one part or more in a union, no NUL in keys and values, out statements at the top level alone, and unions and
-- differences at most so deep in one another.
-- Source: this project.
use Rattle.std.specs.Prelude.{◌≡◌, ℕ, suc, true, [], ⊤}
use Rattle.std.specs.List.{AllByRecursion}
use Rattle.osm_model.specs.Limits.{HasNoNul}
use Rattle.ql_syntax.specs.Filters.{Filter, InSet, HasKey, KeyIs, LacksKey, KeyIsNot, Ids, Within, Via}
use Rattle.ql_syntax.specs.Picks.{allows, takes_boxes}
use Rattle.ql_syntax.specs.Statements.{Statement, Statements, Select, Recurse, Item, Union, Minus, Print, End, Then}
use Rattle.ql_syntax.specs.declared.pick.Pick.{Pick}
use Rattle.ql_syntax.specs.declared.statements.TheConstants.{NESTING_LIMIT}

-- the kind allows the filter, a list of ids has one or more, and no key or value has a NUL
abbrev pub Allows : Pick → Filter → Type 0
Allows pick (InSet name) = ⊤
Allows pick (HasKey key) = HasNoNul key
Allows pick (KeyIs key value) = HasNoNul key × HasNoNul value
Allows pick (LacksKey key) = HasNoNul key
Allows pick (KeyIsNot key value) = HasNoNul key × HasNoNul value
Allows pick (Ids ids) = ¬ (ids ≡ [])
Allows pick (Within area) = takes_boxes pick ≡ true
Allows pick (Via path name) = allows pick path ≡ true

-- inside a union or a difference, and this many deep at most
abbrev mutual
  pub IsInner : ℕ → Statement → Type 0
  IsInner depth (Select pick filters set) = AllByRecursion (Allows pick) filters
  IsInner depth (Recurse start how set) = ⊤
  IsInner depth (Item start set) = ⊤
  IsInner depth (Union parts set) = (below : ℕ) × (depth ≡ suc below) × AreInner below parts × ¬ (parts ≡ End)
  IsInner depth (Minus left right set) = (below : ℕ) × (depth ≡ suc below) × IsInner below left × IsInner below right
  IsInner depth (Print start mode limit) = ⊥

  pub AreInner : ℕ → Statements → Type 0
  AreInner depth End = ⊤
  AreInner depth (Then statement statements) = IsInner depth statement × AreInner depth statements

-- at the top level
abbrev pub IsTop : Statement → Type 0
IsTop (Print start mode limit) = ⊤
IsTop (Select pick filters set) = IsInner NESTING_LIMIT (Select pick filters set)
IsTop (Recurse start how set) = ⊤
IsTop (Item start set) = ⊤
IsTop (Union parts set) = IsInner NESTING_LIMIT (Union parts set)
IsTop (Minus left right set) = IsInner NESTING_LIMIT (Minus left right set)

-- the statements of a query
abbrev pub IsQuery : Statements → Type 0
IsQuery End = ⊤
IsQuery (Then statement statements) = IsTop statement × IsQuery statements
