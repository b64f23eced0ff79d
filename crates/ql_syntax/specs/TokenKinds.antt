-- What begins at a place: punctuation, the longest there, or the first byte of another token.
-- Source: the punctuation of the Overpass QL page of the OpenStreetMap wiki; that the longest is taken
-- is this project's.
use Rattle.std.specs.Prelude.{ℕ, ◌==◌, if◌then◌else◌, List, [], ◌∷◌}
use Rattle.osm_model.specs.Bytes.{exclamation_mark, left_parenthesis, right_parenthesis, comma, hyphen, dot, colon, semicolon, less_than, equals_sign, greater_than, left_bracket, right_bracket, tilde}
use Rattle.std.specs.Char.{is_ascii_digit}
use Rattle.ql_syntax.specs.Words.{is_word_start, begins_with}
use Rattle.ql_syntax.specs.QuotedTexts.{is_quote}
use Rattle.ql_syntax.specs.declared.token_kind.TokenKind.{TokenKind}
use Rattle.ql_syntax.specs.declared.token_kind.TokenKind.TheVariants as kinds

-- punctuation of one byte
abbrev pub one_byte_kind : ℕ → TokenKind
one_byte_kind b =
    if b == left_bracket then kinds.OpenBracket
    else if b == right_bracket then kinds.CloseBracket
    else if b == left_parenthesis then kinds.OpenParenthesis
    else if b == right_parenthesis then kinds.CloseParenthesis
    else if b == semicolon then kinds.Semicolon
    else if b == comma then kinds.Comma
    else if b == colon then kinds.Colon
    else if b == equals_sign then kinds.Equal
    else if b == dot then kinds.Dot
    else if b == tilde then kinds.Tilde
    else kinds.Other

-- punctuation that begins with `-`, and numbers that do
abbrev pub kind_after_minus : List ℕ → TokenKind
kind_after_minus after = if begins_with (λ b. b == greater_than) after then kinds.Arrow else if begins_with is_ascii_digit after then kinds.Number else kinds.Minus

abbrev pub kind_after_not : List ℕ → TokenKind
kind_after_not after = if begins_with (λ b. b == equals_sign) after then kinds.NotEqual else if begins_with (λ b. b == tilde) after then kinds.NotTilde else kinds.Not

abbrev pub token_kind_from : ℕ → List ℕ → TokenKind
token_kind_from b after =
    if is_word_start b then kinds.Word
    else if is_ascii_digit b then kinds.Number
    else if is_quote b then kinds.Quote
    else if b == hyphen then kind_after_minus after
    else if b == exclamation_mark then kind_after_not after
    else if b == greater_than then (if begins_with (λ b. b == greater_than) after then kinds.DownAll else kinds.Down)
    else if b == less_than then (if begins_with (λ b. b == less_than) after then kinds.UpAll else kinds.Up)
    else one_byte_kind b

abbrev pub token_kind_at : List ℕ → TokenKind
token_kind_at [] = kinds.End
token_kind_at (b ∷ after) = token_kind_from b after

-- how many bytes the punctuation has; 0 where a word, a number, a text, nothing or something else begins
abbrev pub punctuation_len : TokenKind → ℕ
punctuation_len kinds.End = 0
punctuation_len kinds.Word = 0
punctuation_len kinds.Number = 0
punctuation_len kinds.Quote = 0
punctuation_len kinds.OpenBracket = 1
punctuation_len kinds.CloseBracket = 1
punctuation_len kinds.OpenParenthesis = 1
punctuation_len kinds.CloseParenthesis = 1
punctuation_len kinds.Semicolon = 1
punctuation_len kinds.Comma = 1
punctuation_len kinds.Colon = 1
punctuation_len kinds.Equal = 1
punctuation_len kinds.NotEqual = 2
punctuation_len kinds.NotTilde = 2
punctuation_len kinds.Not = 1
punctuation_len kinds.Tilde = 1
punctuation_len kinds.Dot = 1
punctuation_len kinds.Minus = 1
punctuation_len kinds.Arrow = 2
punctuation_len kinds.Down = 1
punctuation_len kinds.DownAll = 2
punctuation_len kinds.Up = 1
punctuation_len kinds.UpAll = 2
punctuation_len kinds.Other = 0
