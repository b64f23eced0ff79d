-- The command `publish FILE [--edition 1|2] [--sequence N]`.
-- Source: this project.
use Rattle.std.specs.Prelude.{codes}
use Rattle.clap.specs.Words.{App, Text, new_app, with_rule}
use Rattle.command_line.specs.Arguments.{wanted}
use Rattle.command_line.specs.EditionOptions.{with_edition_options}

abbrev pub publish_name : Text
publish_name = codes "publish"

abbrev pub publish_app : App
publish_app = with_edition_options (with_rule (new_app publish_name) (wanted (codes "FILE")))
