-- The command `query ROOT PLACE QUERY [--form opl|json|xml] [--max-bytes BYTES] [--max-work N]`.
-- Source: this project.
use Rattle.std.specs.Prelude.{codes}
use Rattle.clap.specs.Words.{App, Text, new_app, with_rule}
use Rattle.command_line.specs.Arguments.{wanted}
use Rattle.command_line.specs.FormOption.{form_rule}
use Rattle.command_line.specs.MaxBytesOption.{max_bytes_rule}
use Rattle.command_line.specs.MaxWorkOption.{max_work_rule}

abbrev pub query_name : Text
query_name = codes "query"

abbrev pub query_app : App
query_app = with_rule (with_rule (with_rule (with_rule (with_rule (with_rule (new_app query_name) (wanted (codes "ROOT"))) (wanted (codes "PLACE"))) (wanted (codes "QUERY"))) form_rule) max_bytes_rule) max_work_rule
