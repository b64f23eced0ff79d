-- The command `prove FILE QUERYFILE ANSWERFILE PROOFFILE [--edition 1|2] [--sequence N]`.
-- Source: this project.
use Rattle.std.specs.Prelude.{codes}
use Rattle.clap.specs.Words.{App, Text, new_app, with_rule}
use Rattle.command_line.specs.Arguments.{wanted}
use Rattle.command_line.specs.EditionOptions.{with_edition_options}

abbrev pub prove_name : Text
prove_name = codes "prove"

abbrev pub prove_app : App
prove_app = with_edition_options (with_rule (with_rule (with_rule (with_rule (new_app prove_name) (wanted (codes "FILE"))) (wanted (codes "QUERYFILE"))) (wanted (codes "ANSWERFILE"))) (wanted (codes "PROOFFILE")))
