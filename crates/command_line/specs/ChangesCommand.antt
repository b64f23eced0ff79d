-- The command `changes FILE SEQUENCE CHANGEFILE`.
-- Source: this project.
use Rattle.std.specs.Prelude.{Some, codes}
use Rattle.clap.specs.Words.{App, Rule, Text, new_app, with_rule}
use Rattle.clap.specs.declared.builder.value_parser.ValueParser.TheVariants as value
use Rattle.command_line.specs.Arguments.{wanted}

abbrev pub changes_name : Text
changes_name = codes "changes"

-- its value is a number below 2^64
abbrev pub set_sequence_rule : Rule
set_sequence_rule = record (wanted (codes "SEQUENCE")) { parser = Some (value.Unsigned 0 18446744073709551615) }

abbrev pub changes_app : App
changes_app = with_rule (with_rule (with_rule (new_app changes_name) (wanted (codes "FILE"))) set_sequence_rule) (wanted (codes "CHANGEFILE"))
