-- The command `explain CODE`.
-- Source: this project.
use Rattle.std.specs.Prelude.{codes}
use Rattle.clap.specs.Words.{App, Text, new_app, with_rule}
use Rattle.command_line.specs.Arguments.{wanted}

abbrev pub explain_name : Text
explain_name = codes "explain"

abbrev pub explain_app : App
explain_app = with_rule (new_app explain_name) (wanted (codes "CODE"))
