-- Flags among the words: options without a value.
-- Source: this project; the text of a flag is clap's, `true` where the flag is among the words and `false` where it isn't.
use Rattle.std.specs.Prelude.{◌≡◌, Bool, Option, Some, None, codes, false, true}
use Rattle.clap.specs.Words.{Rule, Text, new_rule}
use Rattle.clap.specs.declared.builder.action.ArgAction.TheVariants.{SetTrue}

-- a flag `--name`
abbrev pub flag_rule : Text → Rule
flag_rule name = record (new_rule name) { long = Some name; action = Some SetTrue }

-- what the text of a flag says; a flag without a text is false
abbrev pub IsFlag : Option Text → Bool → Type 0
IsFlag None flag = flag ≡ false
IsFlag (Some text) flag = (text ≡ codes "true" → flag ≡ true) × (text ≡ codes "false" → flag ≡ false)
