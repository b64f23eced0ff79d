-- The options `--edition 1|2` and `--sequence N`, which tell the edition of a root.
-- Source: this project.
use Rattle.std.specs.Prelude.{◌≡◌, ◌≢◌, ℕ, Option, Some, codes, unwrap_or}
use Rattle.clap.specs.Words.{App, Rule, Text, new_rule, with_rule}
use Rattle.clap.specs.declared.builder.value_parser.ValueParser.TheVariants as value
use Rattle.command_line.specs.Numbers.{IsNumber}
use Rattle.osm_keys.specs.declared.edition.Edition.{Edition}
use Rattle.osm_keys.specs.declared.edition.Edition.TheVariants.{One, Two}

-- an option `--name` with one value
abbrev pub option_rule : Text → Rule
option_rule name = record (new_rule name) { long = Some name; value_names = 1 }

abbrev pub edition_rule : Rule
edition_rule = option_rule (codes "edition")

-- its value is a number below 2^64
abbrev pub sequence_rule : Rule
sequence_rule = record (option_rule (codes "sequence")) { parser = Some (value.Unsigned 0 18446744073709551615) }

-- a command with both options
abbrev pub with_edition_options : App → App
with_edition_options app = with_rule (with_rule app edition_rule) sequence_rule

-- the number after `--sequence`, 0 where there is none
abbrev pub IsSequence : Option Text → ℕ → Type 0
IsSequence = IsNumber 64 0

-- the word after `--edition`; `2` where there is none
abbrev pub edition_word : Option Text → Text
edition_word word = unwrap_or word (codes "2")

-- the words after `--edition` and `--sequence` ask for this edition
abbrev pub AsksForEdition : Option Text → Option Text → Edition → Type 0
AsksForEdition word number One = edition_word word ≡ codes "1"
AsksForEdition word number (Two sequence) = (edition_word word ≡ codes "2") × IsSequence number sequence

-- the word after `--edition` is neither `1` nor `2`
abbrev pub IsBadEdition : Option Text → Type 0
IsBadEdition word = (edition_word word ≢ codes "1") × (edition_word word ≢ codes "2")
