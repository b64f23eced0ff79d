-- Statements: query statements, recursions, items, unions, differences, and out statements.
-- Source: the Overpass QL page of the OpenStreetMap wiki, "Statements"; that a set may be named before a
-- recursion and an out statement, that an out statement stands at the top level alone, and how deep unions
-- and differences may stand in one another, is this project's.
use Rattle.std.specs.Prelude.{◌≡◌, ℕ, zero, suc, List, [], ◌∷◌, Option, None, Some, drop, codes}
use Rattle.std.specs.Option.{unwrap_or}
use Rattle.osm_model.specs.declared.out_mode.OutMode.TheVariants as modes
use Rattle.ql_syntax.specs.declared.statements.TheConstants.{NESTING_LIMIT}
use Rattle.ql_syntax.specs.Outs.{out_options}
use Rattle.ql_syntax.specs.TokenRules.{Next, Word, next_token, unexpected, pass, word_at, name_after, into}
use Rattle.ql_syntax.specs.Rules.{Rule, ◌>>=◌, give, refuse, from, choose, by_case, gather}
use Rattle.ql_syntax.specs.Selections.{selection}
use Rattle.ql_syntax.specs.StatementWords.{statement_word}
use Rattle.ql_syntax.specs.Statements.{Statement, Recurse, Item, Union, Minus, Print, row_of}
use Rattle.ql_syntax.specs.declared.cause.QlCause.TheVariants as causes
use Rattle.ql_syntax.specs.declared.level.Level.{Level}
use Rattle.ql_syntax.specs.declared.level.Level.TheVariants as levels
use Rattle.ql_syntax.specs.declared.recursion.Recursion.{Recursion}
use Rattle.ql_syntax.specs.declared.recursion.Recursion.TheVariants as recursions
use Rattle.ql_syntax.specs.declared.token_kind.TokenKind.{TokenKind}
use Rattle.ql_syntax.specs.declared.token_kind.TokenKind.TheVariants as kinds
use Rattle.ql_syntax.specs.declared.statement_word.StatementWord.{StatementWord}
use Rattle.ql_syntax.specs.declared.statement_word.StatementWord.TheVariants as words

-- the recursion that punctuation asks for
abbrev pub recursion_of : TokenKind → Option Recursion
recursion_of kinds.Down = Some recursions.Down
recursion_of kinds.DownAll = Some recursions.DownAll
recursion_of kinds.Up = Some recursions.Up
recursion_of kinds.UpAll = Some recursions.UpAll
recursion_of kind = None

-- what follows the `>`, `>>`, `<` or `<<` of a recursion
unfoldable pub recursion : List ℕ → Recursion → Rule Statement
recursion start how = do
  set ← into
  give (Recurse start how set)

-- a set alone
unfoldable pub item : List ℕ → Rule Statement
item start = do
  set ← into
  give (Item start set)

-- what follows `out`
unfoldable pub out_of : List ℕ → Rule Statement
out_of start = do
  options ← out_options
  give (Print start (unwrap_or options.mode modes.Body) options.limit)

-- an out statement may stand at the top level alone
abbrev pub print_at : List ℕ → List ℕ → Level → Rule Statement
print_at start place levels.Top = out_of start
print_at start place levels.Inner = refuse causes.Unsupported place

unfoldable pub print : Level → List ℕ → List ℕ → Rule Statement
print level start place = by_case level (print_at start place)

-- what follows the first word of a statement
abbrev pub statement_named : Level → List ℕ → StatementWord → Rule Statement
statement_named level place (words.Kind pick) = selection pick
statement_named level place words.Print = print level (codes "_") place
statement_named level place words.Unsupported = refuse causes.Unsupported place
statement_named level place words.Unknown = refuse causes.UnexpectedWord place

unfoldable pub word_statement : Level → Word → Rule Statement
word_statement level word = by_case (statement_word word.word) (statement_named level word.place)

-- what follows the first word after the name of a set
abbrev pub set_statement_named : Level → List ℕ → List ℕ → StatementWord → Rule Statement
set_statement_named level start place (words.Kind pick) = refuse causes.UnexpectedWord place
set_statement_named level start place words.Print = print level start place
set_statement_named level start place words.Unsupported = refuse causes.Unsupported place
set_statement_named level start place words.Unknown = refuse causes.UnexpectedWord place

unfoldable pub set_word_statement : Level → List ℕ → Word → Rule Statement
set_word_statement level start word = by_case (statement_word word.word) (set_statement_named level start word.place)

-- a recursion from a set, or the set alone
abbrev pub recursion_or_item : List ℕ → List ℕ → Option Recursion → Rule Statement
recursion_or_item start place (Some how) = recursion start how
recursion_or_item start place None = from place (item start)

-- what follows the name of a set
unfoldable pub set_statement : Level → List ℕ → Rule Statement
set_statement level start = do
  next ← next_token
  choose (next.kind ≡ kinds.Word) (do
    word ← word_at next
    set_word_statement level start word)
      (by_case (recursion_of next.kind) (recursion_or_item start next.place))

-- a recursion from the default set, or what no statement begins with
abbrev pub recursion_at : Next → Option Recursion → Rule Statement
recursion_at next (Some how) = recursion (codes "_") how
recursion_at next None = unexpected next

-- a statement that doesn't begin with `(`
unfoldable pub plain_statement : Level → Next → Rule Statement
plain_statement level next =
    choose (next.kind ≡ kinds.Dot) (do
      start ← name_after next
      set_statement level start)
    (choose (next.kind ≡ kinds.Word) (do
      word ← word_at next
      word_statement level word)
    (by_case (recursion_of next.kind) (recursion_at next)))

-- a statement of a union, or its `)`
unfoldable pub part : Rule Statement → Rule (Option Statement)
part inner = do
  next ← next_token
  choose (next.kind ≡ kinds.CloseParenthesis) (give None) (do
    statement ← from next.place inner
    give (Some statement))

-- what follows the first statement of a union
unfoldable pub union : Rule Statement → Statement → Rule Statement
union inner first = do
  parts ← gather (part inner) (first ∷ [])
  set ← into
  give (Union (row_of parts) set)

-- what follows the `-` of a difference
unfoldable pub difference : Rule Statement → Statement → Rule Statement
difference inner left = do
  right ← inner
  close ← pass kinds.CloseParenthesis
  set ← into
  give (Minus left right set)

-- what follows the `(` of a union or a difference; `->` after the first statement is `-` and `>`
unfoldable pub block : Rule Statement → Rule Statement
block inner = do
  first ← inner
  next ← next_token
  choose (next.kind ≡ kinds.Minus) (difference inner first)
      (choose (next.kind ≡ kinds.Arrow) (from (drop 1 next.place) (difference inner first)) (from next.place (union inner first)))

-- a statement, its `;` included; this many `(` may be open at once
unfoldable pub statement : Level → ℕ → Rule Statement
statement level zero = do
  next ← next_token
  choose (next.kind ≡ kinds.OpenParenthesis) (refuse causes.TooDeep next.place) (plain_statement level next)
statement level (suc depth) = do
  next ← next_token
  choose (next.kind ≡ kinds.OpenParenthesis) (block (statement levels.Inner depth)) (plain_statement level next)

-- a statement at the top level, or the end of the query, after which nothing is left
unfoldable pub top_statement : Rule (Option Statement)
top_statement = do
  next ← next_token
  choose (next.kind ≡ kinds.End) (from [] (give None)) (do
    statement ← from next.place (statement levels.Top NESTING_LIMIT)
    give (Some statement))
