-- Settings of a query: `[out:json]`, `[out:xml]`, `[timeout:N]`, `[maxsize:N]`, in any order and number,
-- and then `;`. What is read is the last format that they ask for.
-- Source: the Overpass QL page of the OpenStreetMap wiki, "Settings"; which are left out, and that the last format
-- counts, is this project's.
use Rattle.std.specs.Option.{option_or}
use Rattle.std.specs.Prelude.{◌≡◌, ℕ, List, Option, None, Some}
use Rattle.ql_syntax.specs.TokenRules.{Word, next_token, pass, unexpected, a_word, a_number}
use Rattle.ql_syntax.specs.Rules.{Rule, ◌>>=◌, give, refuse, from, choose, by_case, repeat, Round, More, Done}
use Rattle.ql_syntax.specs.SettingWords.{setting_of, format_of}
use Rattle.ql_syntax.specs.WholeNumbers.{count_of}
use Rattle.ql_syntax.specs.declared.cause.QlCause.TheVariants as causes
use Rattle.ql_syntax.specs.declared.format.Format.{Format}
use Rattle.ql_syntax.specs.declared.setting_word.SettingWord.{SettingWord}
use Rattle.ql_syntax.specs.declared.setting_word.SettingWord.TheVariants as words
use Rattle.ql_syntax.specs.declared.setting_word.FormatWord.{FormatWord}
use Rattle.ql_syntax.specs.declared.setting_word.FormatWord.TheVariants as formats
use Rattle.ql_syntax.specs.declared.token_kind.TokenKind.TheVariants as kinds

abbrev pub format_named : List ℕ → FormatWord → Rule (Option Format)
format_named place (formats.Known format) = give (Some format)
format_named place formats.Unsupported = refuse causes.Unsupported place
format_named place formats.Unknown = refuse causes.UnexpectedWord place

-- the word of a format
unfoldable pub format : Rule (Option Format)
format = do
  found ← a_word
  by_case (format_of found.word) (format_named found.place)

-- a number in the range of 64 bits without a sign, which asks for no format
unfoldable pub count : Rule (Option Format)
count = do
  found ← a_number
  value ← count_of found.number found.place
  give None

-- what follows the first word of a setting
abbrev pub setting_named : List ℕ → SettingWord → Rule (Option Format)
setting_named place words.Format = do
  colon ← pass kinds.Colon
  format
setting_named place words.Count = do
  colon ← pass kinds.Colon
  count
setting_named place words.Unsupported = refuse causes.Unsupported place
setting_named place words.Unknown = refuse causes.UnexpectedWord place

unfoldable pub setting_value : Word → Rule (Option Format)
setting_value name = by_case (setting_of name.word) (setting_named name.place)

-- one setting after its `[`, and its `]`
unfoldable pub setting : Rule (Option Format)
setting = do
  name ← a_word
  asked ← setting_value name
  close ← pass kinds.CloseBracket
  give asked

-- one setting of several, after those that asked for this: another follows, or the `;` after the last
unfoldable pub setting_round : Option Format → Rule (Round (Option Format) (Option Format))
setting_round before = do
  asked ← setting
  next ← next_token
  choose (next.kind ≡ kinds.OpenBracket) (give (More (option_or asked before)))
      (choose (next.kind ≡ kinds.Semicolon) (give (Done (option_or asked before))) (unexpected next))

-- the settings before the first statement, or none
unfoldable pub settings : Rule (Option Format)
settings = do
  next ← next_token
  choose (next.kind ≡ kinds.OpenBracket) (repeat setting_round None) (from next.place (give None))
