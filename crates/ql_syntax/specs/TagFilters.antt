-- Filters by tags: `[k]`, `[k=v]`, `[k!=v]`, `[!k]`.
-- Source: the Overpass QL page of the OpenStreetMap wiki, "By tag"; which are left out, and that a key or
-- a value may be an unquoted run of letters, digits and `_`, is this project's.
use Rattle.std.specs.Prelude.{◌≡◌, ℕ, true, List}
use Rattle.ql_syntax.specs.Filters.{Filter, HasKey, KeyIs, LacksKey, KeyIsNot}
use Rattle.ql_syntax.specs.TokenRules.{Next, next_token, run_here, text_here}
use Rattle.ql_syntax.specs.QuotedTexts.{is_quote}
use Rattle.ql_syntax.specs.Rules.{Rule, ◌>>=◌, give, refuse, from, choose}
use Rattle.ql_syntax.specs.Tokens.{unexpected_cause}
use Rattle.ql_syntax.specs.Words.{begins_with, is_run_byte}
use Rattle.ql_syntax.specs.declared.cause.QlCause.{QlCause}
use Rattle.ql_syntax.specs.declared.cause.QlCause.TheVariants as causes
use Rattle.ql_syntax.specs.declared.token_kind.TokenKind.{TokenKind}
use Rattle.ql_syntax.specs.declared.token_kind.TokenKind.TheVariants as kinds

-- why a token can't stand where it does inside the `[ ]`: `~` and `!~` ask for a pattern, which the profile
-- leaves out
abbrev pub cause_in_tag : TokenKind → QlCause
cause_in_tag kinds.Tilde = causes.Unsupported
cause_in_tag kinds.NotTilde = causes.Unsupported
cause_in_tag kind = unexpected_cause kind

unfoldable pub not_in_tag : {A : Type 0} → Next → Rule A
not_in_tag next = refuse (cause_in_tag next.kind) next.place

-- the key or value that begins with this token
unfoldable pub tag_text_at : Next → Rule (List ℕ)
tag_text_at next =
    choose (begins_with is_quote next.place ≡ true) (from next.place text_here)
    (choose (begins_with is_run_byte next.place ≡ true) (from next.place run_here) (not_in_tag next))

-- a key or a value
unfoldable pub tag_text : Rule (List ℕ)
tag_text = do
  next ← next_token
  tag_text_at next

-- the `]`
unfoldable pub tag_close : Rule (Unit {0})
tag_close = do
  next ← next_token
  choose (next.kind ≡ kinds.CloseBracket) (give tt) (not_in_tag next)

-- a value and the `]`
unfoldable pub tag_value : Rule (List ℕ)
tag_value = do
  value ← tag_text
  close ← tag_close
  give value

-- what follows a key
unfoldable pub tag_rest : List ℕ → Rule Filter
tag_rest key = do
  next ← next_token
  choose (next.kind ≡ kinds.CloseBracket) (give (HasKey key))
      (choose (next.kind ≡ kinds.Equal) (do
        value ← tag_value
        give (KeyIs key value))
      (choose (next.kind ≡ kinds.NotEqual) (do
        value ← tag_value
        give (KeyIsNot key value))
      (not_in_tag next)))

-- a filter after its `[`
unfoldable pub tag_filter : Rule Filter
tag_filter = do
  next ← next_token
  choose (next.kind ≡ kinds.Not) (do
    key ← tag_value
    give (LacksKey key))
      (do
        key ← tag_text_at next
        tag_rest key)
