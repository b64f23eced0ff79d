-- The command `relay ROOT HOST:PORT LISTENPORT [--fallback HOST:PORT].. [--root-file FILE] [--connections N] [--max-work N]`.
-- Source: this project.
use Rattle.std.specs.Prelude.{Some, codes}
use Rattle.clap.specs.Words.{App, Rule, Text, new_app, with_rule}
use Rattle.clap.specs.declared.builder.action.ArgAction.TheVariants.{Append}
use Rattle.command_line.specs.Arguments.{wanted}
use Rattle.command_line.specs.EditionOptions.{option_rule}
use Rattle.command_line.specs.ListenOptions.{connections_rule, port_rule}
use Rattle.command_line.specs.MaxWorkOption.{max_work_rule}

abbrev pub relay_name : Text
relay_name = codes "relay"

-- it may be given any number of times
abbrev pub fallback_rule : Rule
fallback_rule = record (option_rule (codes "fallback")) { action = Some Append }

-- its value is the name of a file
abbrev pub root_file_rule : Rule
root_file_rule = option_rule (codes "root-file")

abbrev pub relay_app : App
relay_app = with_rule (with_rule (with_rule (with_rule (with_rule (with_rule (with_rule (new_app relay_name) (wanted (codes "ROOT"))) (wanted (codes "HOST:PORT"))) (port_rule (codes "LISTENPORT"))) fallback_rule) root_file_rule) connections_rule) max_work_rule
