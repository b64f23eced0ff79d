-- The words of settings.
-- Source: the Overpass QL page of the OpenStreetMap wiki, "Settings"; which are left out is this
-- project's.
use Rattle.std.specs.Prelude.{ℕ, Bool, ◌||◌, if◌then◌else◌, List, [], ◌∷◌, codes, bytes_eq}
use Rattle.ql_syntax.specs.Words.{is_one_of}
use Rattle.ql_syntax.specs.declared.format.Format.TheVariants as named
use Rattle.ql_syntax.specs.declared.setting_word.SettingWord.{SettingWord}
use Rattle.ql_syntax.specs.declared.setting_word.SettingWord.TheVariants as settings
use Rattle.ql_syntax.specs.declared.setting_word.FormatWord.{FormatWord}
use Rattle.ql_syntax.specs.declared.setting_word.FormatWord.TheVariants as formats

-- the profile leaves out the setting that this word begins
abbrev pub is_unsupported_setting : List ℕ → Bool
is_unsupported_setting word = is_one_of word (codes "bbox" ∷ codes "date" ∷ codes "diff" ∷ codes "adiff" ∷ [])

abbrev pub setting_of : List ℕ → SettingWord
setting_of word =
    if is_unsupported_setting word then settings.Unsupported
    else if bytes_eq word (codes "out") then settings.Format
    else if bytes_eq word (codes "timeout") || bytes_eq word (codes "maxsize") then settings.Count
    else settings.Unknown

-- the profile leaves out the format with this name
abbrev pub is_unsupported_format : List ℕ → Bool
is_unsupported_format word = is_one_of word (codes "csv" ∷ codes "custom" ∷ codes "popup" ∷ [])

abbrev pub format_of : List ℕ → FormatWord
format_of word =
    if is_unsupported_format word then formats.Unsupported
    else if bytes_eq word (codes "json") then formats.Known named.Json
    else if bytes_eq word (codes "xml") then formats.Known named.Xml
    else formats.Unknown
