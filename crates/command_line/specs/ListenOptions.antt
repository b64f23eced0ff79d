-- Where a server listens, and how many connections it serves: a port, and the option `--connections N`.
-- Source: this project.
use Rattle.std.specs.Prelude.{Some, codes, pos}
use Rattle.clap.specs.Words.{Rule, Text}
use Rattle.clap.specs.declared.builder.value_parser.ValueParser.TheVariants as value
use Rattle.command_line.specs.Arguments.{wanted}
use Rattle.command_line.specs.EditionOptions.{option_rule}

-- an argument whose value is a number below 2^16
abbrev pub port_rule : Text → Rule
port_rule name = record (wanted name) { parser = Some (value.Signed (pos 0) (pos 65535)) }

-- its value is a number below 2^32
abbrev pub connections_rule : Rule
connections_rule = record (option_rule (codes "connections")) { parser = Some (value.Signed (pos 0) (pos 4294967295)) }
