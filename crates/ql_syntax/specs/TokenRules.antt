-- The rules that read one token.
-- Source: this project.
use Rattle.std.specs.Prelude.{◌≡◌, ℕ, Bool, true, false, List, drop, codes}
use Rattle.osm_model.specs.Degrees.{Decimal}
use Rattle.ql_syntax.specs.Gaps.{gap, Between, After}
use Rattle.ql_syntax.specs.Numbers.{IsNumber, IsNoNumber}
use Rattle.ql_syntax.specs.QuotedTexts.{IsQuoted, IsNotQuoted}
use Rattle.ql_syntax.specs.Rules.{Rule, ◌>>=◌, give, refuse, from, choose}
use Rattle.ql_syntax.specs.TokenKinds.{token_kind_at, punctuation_len}
use Rattle.ql_syntax.specs.Tokens.{IsOpenComment, unexpected_cause}
use Rattle.ql_syntax.specs.Words.{IsRun, IsName, IsNoName}
use Rattle.ql_syntax.specs.declared.token_kind.TokenKind.{TokenKind}
use Rattle.ql_syntax.specs.declared.token_kind.TokenKind.TheVariants as kinds

-- what begins next, and the place where it does
pub record Next : Type 0 where
  pub kind : TokenKind
  pub place : List ℕ

-- the next token stands at this place, after blanks and comments
pub record At (text : List ℕ) (next : Next) (rest : List ℕ) : Type 0 where
  pub after_gap : gap Between text ≡ After next.place
  pub kind_is : next.kind ≡ token_kind_at next.place
  pub rest_is : rest ≡ drop (punctuation_len next.kind) next.place

-- what comes next: punctuation is passed, what else begins is left to read
unfoldable pub next_token : Rule Next
next_token = record { reads = At; stops = IsOpenComment }

-- this token can't stand here
unfoldable pub unexpected : {A : Type 0} → Next → Rule A
unexpected next = refuse (unexpected_cause next.kind) next.place

-- this punctuation comes next
unfoldable pub pass : TokenKind → Rule (Unit {0})
pass kind = do
  next ← next_token
  choose (next.kind ≡ kind) (give tt) (unexpected next)

-- the longest run of letters, digits and `_` here
unfoldable pub run_here : Rule (List ℕ)
run_here = record { reads = IsRun; stops = λ text cause place. ⊥ }

-- a word, and the place where it begins
pub record Word : Type 0 where
  pub word : List ℕ
  pub place : List ℕ

-- the word that begins at this token
unfoldable pub word_at : Next → Rule Word
word_at next = do
  word ← run_here
  give (record { word = word; place = next.place })

-- a word comes next
unfoldable pub a_word : Rule Word
a_word = do
  next ← next_token
  choose (next.kind ≡ kinds.Word) (word_at next) (unexpected next)

-- a number, and the place where it begins
pub record Number : Type 0 where
  pub number : Decimal
  pub place : List ℕ

unfoldable pub number_here : Rule Decimal
number_here = record { reads = IsNumber; stops = IsNoNumber }

-- the number that begins at this token
unfoldable pub number_at : Next → Rule Number
number_at next = do
  number ← from next.place number_here
  give (record { number = number; place = next.place })

-- a number may begin so
abbrev pub begins_number : TokenKind → Bool
begins_number kinds.Number = true
begins_number kinds.Minus = true
begins_number kind = false

-- a number comes next
unfoldable pub a_number : Rule Number
a_number = do
  next ← next_token
  choose (begins_number next.kind ≡ true) (number_at next) (unexpected next)

-- the text between quotes here
unfoldable pub text_here : Rule (List ℕ)
text_here = record { reads = IsQuoted; stops = IsNotQuoted }

-- the name of a set after this dot
unfoldable pub name_after : Next → Rule (List ℕ)
name_after dot = record { reads = IsName; stops = IsNoName dot.place }

-- the name of a set comes next
unfoldable pub a_name : Rule (List ℕ)
a_name = do
  next ← next_token
  choose (next.kind ≡ kinds.Dot) (name_after next) (unexpected next)

-- the set that a statement writes to, and its end: `->` and a name, or nothing, and `;`
unfoldable pub into : Rule (List ℕ)
into = do
  next ← next_token
  choose (next.kind ≡ kinds.Arrow) (do
    name ← a_name
    end ← pass kinds.Semicolon
    give name)
      (choose (next.kind ≡ kinds.Semicolon) (give (codes "_")) (unexpected next))
