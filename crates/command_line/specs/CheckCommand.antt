-- The command `check ROOT QUERYFILE ANSWERFILE PROOFFILE [--max-size BYTES] [--max-work N]`.
-- Source: this project.
use Rattle.std.specs.Prelude.{codes}
use Rattle.clap.specs.Words.{App, Text, new_app, with_rule}
use Rattle.command_line.specs.Arguments.{wanted}
use Rattle.command_line.specs.MaxSizeOption.{max_size_rule}
use Rattle.command_line.specs.MaxWorkOption.{max_work_rule}

abbrev pub check_name : Text
check_name = codes "check"

abbrev pub check_app : App
check_app = with_rule (with_rule (with_rule (with_rule (with_rule (with_rule (new_app check_name) (wanted (codes "ROOT"))) (wanted (codes "QUERYFILE"))) (wanted (codes "ANSWERFILE"))) (wanted (codes "PROOFFILE"))) max_size_rule) max_work_rule
