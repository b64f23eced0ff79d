-- The option `--max-work N`, a budget for the work of a query.
-- Source: this project; what is counted stands in ql_eval's Work.
use Rattle.std.specs.Prelude.{Some, codes}
use Rattle.clap.specs.Words.{Rule}
use Rattle.clap.specs.declared.builder.value_parser.ValueParser.TheVariants as value
use Rattle.command_line.specs.EditionOptions.{option_rule}

-- its value is a number below 2^64
abbrev pub max_work_rule : Rule
max_work_rule = record (option_rule (codes "max-work")) { parser = Some (value.Unsigned 0 18446744073709551615) }
