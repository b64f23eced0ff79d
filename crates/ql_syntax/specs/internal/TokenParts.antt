-- What the reader of a token gives.
use Rattle.std.specs.Prelude.{◌≡◌, ℕ, List, drop}
use Rattle.ql_syntax.specs.Gaps.{gap, Between, After}
use Rattle.ql_syntax.specs.TokenKinds.{token_kind_at, punctuation_len}
use Rattle.ql_syntax.specs.Tokens.{unexpected_cause}
use Rattle.ql_syntax.specs.declared.cause.QlCause.{QlCause}
use Rattle.ql_syntax.specs.declared.token.Token.{Token}
use Rattle.ql_syntax.specs.declared.token_kind.TokenKind.{TokenKind}

-- the token after blanks and comments, and what is left after its punctuation
pub record IsToken (text : List ℕ) (token : Token) : Type 0 where
  pub after_gap : gap Between text ≡ After token.place.now
  pub kind_is : token.kind ≡ token_kind_at token.place.now
  pub rest_is : token.rest.now ≡ drop (punctuation_len token.kind) token.place.now

-- a token can't stand where it does
abbrev pub IsUnexpected : TokenKind → List ℕ → QlCause → List ℕ → Type 0
IsUnexpected kind place cause at = (cause ≡ unexpected_cause kind) × (at ≡ place)
