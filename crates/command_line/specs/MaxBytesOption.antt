-- The option `--max-bytes BYTES`, a limit on what a query reads of a pack.
-- Source: this project.
use Rattle.std.specs.Prelude.{Some, codes}
use Rattle.clap.specs.Words.{Rule}
use Rattle.clap.specs.declared.builder.value_parser.ValueParser.TheVariants as value
use Rattle.command_line.specs.EditionOptions.{option_rule}

-- its value is a number below 2^64
abbrev pub max_bytes_rule : Rule
max_bytes_rule = record (option_rule (codes "max-bytes")) { parser = Some (value.Unsigned 0 18446744073709551615) }
