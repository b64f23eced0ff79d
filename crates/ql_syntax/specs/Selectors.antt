-- Filters in parentheses: `(1)`, `(id:1,2)`, `(w)`, `(bn.a)`, `(50,7,51,8)`.
-- Source: the Overpass QL page of the OpenStreetMap wiki, "Filters"; which are left out is this project's.
use Rattle.std.specs.Prelude.{◌≡◌, ℕ, ℤ, true, List, [], ◌∷◌, Option, None, Some, codes}
use Rattle.ql_syntax.specs.Areas.{area}
use Rattle.ql_syntax.specs.Filters.{Filter, Ids, Within, Via}
use Rattle.ql_syntax.specs.Picks.{takes_boxes}
use Rattle.ql_syntax.specs.TokenRules.{Word, Number, next_token, unexpected, pass, word_at, number_at, a_number, begins_number, name_after}
use Rattle.ql_syntax.specs.Rules.{Rule, ◌>>=◌, give, refuse, from, choose, by_case, gather}
use Rattle.ql_syntax.specs.SelectorWords.{selector_word}
use Rattle.ql_syntax.specs.WholeNumbers.{id_of}
use Rattle.ql_syntax.specs.declared.cause.QlCause.TheVariants as causes
use Rattle.ql_syntax.specs.declared.path.Path.{Path}
use Rattle.ql_syntax.specs.declared.pick.Pick.{Pick}
use Rattle.ql_syntax.specs.declared.selector_word.SelectorWord.{SelectorWord}
use Rattle.ql_syntax.specs.declared.selector_word.SelectorWord.TheVariants as words
use Rattle.ql_syntax.specs.declared.token_kind.TokenKind.TheVariants as kinds

-- an id comes next
unfoldable pub an_id : Rule ℤ
an_id = do
  number ← a_number
  id_of number.number number.place

-- another id, or the `)` after the last
unfoldable pub id_after : Rule (Option ℤ)
id_after = do
  next ← next_token
  choose (next.kind ≡ kinds.Comma) (do
    id ← an_id
    give (Some id))
      (choose (next.kind ≡ kinds.CloseParenthesis) (give None) (unexpected next))

-- what follows `id`
unfoldable pub id_list : Rule Filter
id_list = do
  colon ← pass kinds.Colon
  first ← an_id
  ids ← gather id_after (first ∷ [])
  give (Ids ids)

-- the `)` after a path; a `:` would ask for roles, which the profile leaves out
unfoldable pub path_close : Rule (Unit {0})
path_close = do
  next ← next_token
  choose (next.kind ≡ kinds.CloseParenthesis) (give tt)
      (choose (next.kind ≡ kinds.Colon) (refuse causes.Unsupported next.place) (unexpected next))

-- the set that a path leads from, and the `)`
unfoldable pub path_from : Path → Rule Filter
path_from path = do
  next ← next_token
  choose (next.kind ≡ kinds.Dot) (do
    name ← name_after next
    close ← path_close
    give (Via path name))
      (do
        close ← from next.place path_close
        give (Via path (codes "_")))

-- what follows the first word
abbrev pub selector_named : List ℕ → SelectorWord → Rule Filter
selector_named place words.Ids = id_list
selector_named place (words.Along path) = path_from path
selector_named place words.Unsupported = refuse causes.Unsupported place
selector_named place words.Unknown = refuse causes.UnexpectedWord place

unfoldable pub word_selector : Pick → Word → Rule Filter
word_selector pick word = by_case (selector_word pick word.word) (selector_named word.place)

-- the number after a comma
unfoldable pub corner : Rule Number
corner = do
  comma ← pass kinds.Comma
  a_number

-- a box after its first number and the comma
unfoldable pub box_after : Number → Rule Filter
box_after south = do
  west ← a_number
  north ← corner
  east ← corner
  close ← pass kinds.CloseParenthesis
  box ← area (record { south = south.number; west = west.number; north = north.number; east = east.number }) south.place
  give (Within box)

-- what follows the first number: a box, whose first number it is, or the end, and it is an id
unfoldable pub number_selector : Pick → Number → Rule Filter
number_selector pick number = do
  next ← next_token
  choose (next.kind ≡ kinds.Comma) (choose (takes_boxes pick ≡ true) (box_after number) (refuse causes.Unsupported number.place))
      (choose (next.kind ≡ kinds.CloseParenthesis) (do
        id ← id_of number.number number.place
        give (Ids (id ∷ [])))
      (unexpected next))

-- a filter after its `(`, on objects of this kind
unfoldable pub selector : Pick → Rule Filter
selector pick = do
  next ← next_token
  choose (next.kind ≡ kinds.Word) (do
    word ← word_at next
    word_selector pick word)
      (choose (begins_number next.kind ≡ true) (do
        number ← number_at next
        number_selector pick number)
      (unexpected next))
