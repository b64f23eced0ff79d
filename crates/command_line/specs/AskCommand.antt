-- The command `ask QUERY [--form opl|json|xml]`.
-- Source: this project.
use Rattle.std.specs.Prelude.{codes}
use Rattle.clap.specs.Words.{App, Text, new_app, with_rule}
use Rattle.command_line.specs.Arguments.{wanted}
use Rattle.command_line.specs.FormOption.{form_rule}

abbrev pub ask_name : Text
ask_name = codes "ask"

abbrev pub ask_app : App
ask_app = with_rule (with_rule (new_app ask_name) (wanted (codes "QUERY"))) form_rule
