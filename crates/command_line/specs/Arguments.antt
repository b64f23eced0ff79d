-- Arguments of a command, as clap defines them.
-- Source: this project; rules, rows and matches are clap's.
use Rattle.std.specs.Prelude.{[], List, true, unwrap_or}
use Rattle.clap.specs.Words.{Row, Rule, Text, all_of, first_of, new_rule}

-- a positional argument that has to be there
abbrev pub wanted : Text → Rule
wanted id = record (new_rule id) { required = true }

-- the first text that the matches have for the argument, empty where they have none
abbrev pub text_of : Text → List Row → Text
text_of id rows = unwrap_or (first_of id rows) []

-- all texts that the matches have for the argument, in order
abbrev pub texts_of : Text → List Row → List Text
texts_of id rows = unwrap_or (all_of id rows) []
