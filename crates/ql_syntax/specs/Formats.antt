-- The format that the settings of a query ask for.
-- Source: the Overpass QL page of the OpenStreetMap wiki, "Settings"; that the last of several formats counts is
-- this project's.
use Rattle.std.specs.Option.{option_or}
use Rattle.std.specs.Prelude.{◌≡◌, ℕ, List, [], ◌∷◌, Option, None, Some}
use Rattle.ql_syntax.specs.Grammar.{in_brackets, limit, row}
use Rattle.ql_syntax.specs.Settings.{settings}
use Rattle.ql_syntax.specs.Spellings.{Spelling, ◌&◌, nothing, each, says, word, the_end}
use Rattle.ql_syntax.specs.Statements.{Statements}
use Rattle.ql_syntax.specs.declared.cause.QlCause.{QlCause}
use Rattle.ql_syntax.specs.declared.format.Format.{Format}
use Rattle.ql_syntax.specs.declared.format.Format.TheVariants as formats

abbrev pub format_word : Format → Spelling
format_word formats.Json = word "json"
format_word formats.Xml = word "xml"

-- `out:json` and `out:xml` ask for a format, `timeout:N` and `maxsize:N` for none
abbrev pub asking : Option Format → Spelling
asking (Some format) = word "out" & says ":" & format_word format
asking None = limit

abbrev pub setting_asking : Option Format → Spelling
setting_asking asked = in_brackets (asking asked)

-- settings, or none, and what each of them asks for
abbrev pub settings_asking : List (Option Format) → Spelling
settings_asking [] = nothing
settings_asking (first ∷ more) = each setting_asking (first ∷ more) & says ";"

-- the last format that one of the settings asks for
abbrev pub last_format : List (Option Format) → Option Format
last_format [] = None
last_format (asked ∷ more) = option_or (last_format more) asked

-- the bytes spell a query whose settings ask for this format, or for none
pub record HasFormat (bytes : List ℕ) (format : Option Format) : Type 0 where
  pub asked : List (Option Format)
  pub statements : Statements
  pub spelled : (settings_asking asked & row statements & the_end) bytes []
  pub last : format ≡ last_format asked

-- the settings at the front of the bytes ask for it, whatever follows them; or they can't be read, and it is none
pub data IsAskedAtFront (bytes : List ℕ) (format : Option Format) : Type 0 where
  Asked : (rest : List ℕ) → settings.reads bytes format rest → IsAskedAtFront bytes format
  Unread : (cause : QlCause) (place : List ℕ) → settings.stops bytes cause place → format ≡ None → IsAskedAtFront bytes format
