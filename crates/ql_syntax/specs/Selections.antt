-- Query statements: a kind, filters, and the set that is written.
-- Source: the Overpass QL page of the OpenStreetMap wiki, "The query statement".
use Rattle.std.specs.Prelude.{◌≡◌, [], Option, None, Some}
use Rattle.ql_syntax.specs.Filters.{Filter, InSet}
use Rattle.ql_syntax.specs.TokenRules.{next_token, name_after, into}
use Rattle.ql_syntax.specs.Rules.{Rule, ◌>>=◌, give, from, choose, gather}
use Rattle.ql_syntax.specs.Selectors.{selector}
use Rattle.ql_syntax.specs.Statements.{Statement, Select}
use Rattle.ql_syntax.specs.TagFilters.{tag_filter}
use Rattle.ql_syntax.specs.declared.pick.Pick.{Pick}
use Rattle.ql_syntax.specs.declared.token_kind.TokenKind.TheVariants as kinds

-- a filter, or none where something else comes next
unfoldable pub a_filter : Pick → Rule (Option Filter)
a_filter pick = do
  next ← next_token
  choose (next.kind ≡ kinds.Dot) (do
    name ← name_after next
    give (Some (InSet name)))
      (choose (next.kind ≡ kinds.OpenBracket) (do
        filter ← tag_filter
        give (Some filter))
      (choose (next.kind ≡ kinds.OpenParenthesis) (do
        filter ← selector pick
        give (Some filter))
      (from next.place (give None))))

-- what follows the word of the kind
unfoldable pub selection : Pick → Rule Statement
selection pick = do
  filters ← gather (a_filter pick) []
  set ← into
  give (Select pick filters set)
