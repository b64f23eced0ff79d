-- Why a token can't stand where it does.
-- Source: this project.
use Rattle.std.specs.Prelude.{◌≡◌, ℕ, List}
use Rattle.ql_syntax.specs.Gaps.{gap, Between, Open}
use Rattle.ql_syntax.specs.declared.cause.QlCause.{QlCause}
use Rattle.ql_syntax.specs.declared.cause.QlCause.TheVariants as causes
use Rattle.ql_syntax.specs.declared.token_kind.TokenKind.{TokenKind}
use Rattle.ql_syntax.specs.declared.token_kind.TokenKind.TheVariants as kinds

-- a comment isn't closed: at its first byte
abbrev pub IsOpenComment : List ℕ → QlCause → List ℕ → Type 0
IsOpenComment text cause at = (cause ≡ causes.Unclosed) × (gap Between text ≡ Open at)

-- the cause at a token that can't stand where it does
abbrev pub unexpected_cause : TokenKind → QlCause
unexpected_cause kinds.End = causes.UnexpectedEnd
unexpected_cause kinds.Word = causes.UnexpectedWord
unexpected_cause kind = causes.UnexpectedCharacter
