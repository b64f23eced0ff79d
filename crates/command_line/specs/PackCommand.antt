-- The command `pack FILE PACK [--add] [--compact] [--memory BYTES] [--temp DIR] [--edition 1|2] [--sequence N]`.
-- Source: this project.
use Rattle.std.specs.Prelude.{codes}
use Rattle.clap.specs.Words.{App, Rule, Text, new_app, with_rule}
use Rattle.command_line.specs.Arguments.{wanted}
use Rattle.command_line.specs.EditionOptions.{option_rule, with_edition_options}
use Rattle.command_line.specs.Flags.{flag_rule}
use Rattle.command_line.specs.MemoryOption.{memory_rule}

abbrev pub pack_name : Text
pack_name = codes "pack"

abbrev pub add_rule : Rule
add_rule = flag_rule (codes "add")

abbrev pub compact_rule : Rule
compact_rule = flag_rule (codes "compact")

-- its value is the name of a folder
abbrev pub temp_rule : Rule
temp_rule = option_rule (codes "temp")

abbrev pub pack_app : App
pack_app = with_edition_options (with_rule (with_rule (with_rule (with_rule (with_rule (with_rule (new_app pack_name) (wanted (codes "FILE"))) (wanted (codes "PACK"))) add_rule) compact_rule) memory_rule) temp_rule)
