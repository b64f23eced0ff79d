-- The option `--memory BYTES`, a limit on what is held of a set while it is packed.
-- Source: this project.
use Rattle.std.specs.Prelude.{Some, codes}
use Rattle.clap.specs.Words.{Rule}
use Rattle.clap.specs.declared.builder.value_parser.ValueParser.TheVariants as value
use Rattle.command_line.specs.EditionOptions.{option_rule}

-- its value is a number below 2^64
abbrev pub memory_rule : Rule
memory_rule = record (option_rule (codes "memory")) { parser = Some (value.Unsigned 0 18446744073709551615) }
