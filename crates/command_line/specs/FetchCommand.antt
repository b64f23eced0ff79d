-- The command `fetch ROOT HOST:PORT QUERY [--form opl|json|xml] [--max-size BYTES] [--max-work N]`.
-- Source: this project.
use Rattle.std.specs.Prelude.{codes}
use Rattle.clap.specs.Words.{App, Text, new_app, with_rule}
use Rattle.command_line.specs.Arguments.{wanted}
use Rattle.command_line.specs.FormOption.{form_rule}
use Rattle.command_line.specs.MaxSizeOption.{max_size_rule}
use Rattle.command_line.specs.MaxWorkOption.{max_work_rule}

abbrev pub fetch_name : Text
fetch_name = codes "fetch"

abbrev pub fetch_app : App
fetch_app = with_rule (with_rule (with_rule (with_rule (with_rule (with_rule (new_app fetch_name) (wanted (codes "ROOT"))) (wanted (codes "HOST:PORT"))) (wanted (codes "QUERY"))) form_rule) max_size_rule) max_work_rule
