-- Commands as they are told to clap, and their names.
use Rattle.std.specs.Prelude.{◌≡◌, ◌⊎◌, List, [], ◌∷◌, Some, false, pos}
use Rattle.clap.specs.Words.{App, Rule, Text, app_of, with_rule}
use Rattle.clap.specs.declared.builder.action.ArgAction.TheVariants.{Append}
use Rattle.clap.specs.declared.builder.value_parser.ValueParser.TheVariants as parser
use Rattle.clap.specs.declared.builder.command.Command.TheViews.{out-Command as fields_of}
use Rattle.clap.specs.declared.builder.command.Command.{Command}
use Rattle.command_line.specs.Arguments.{wanted}
use Rattle.command_line.specs.AskCommand.{ask_name}
use Rattle.command_line.specs.declared.arguments.Argument.{Argument}
use Rattle.command_line.specs.declared.arguments.Place.{Place}
use Rattle.command_line.specs.declared.arguments.Place.TheVariants.{Flag, Option, Positional, RepeatedOption}
use Rattle.command_line.specs.declared.arguments.Value.{Value}
use Rattle.command_line.specs.declared.arguments.Value.TheVariants.{AnyText, U16, U32, U64}
use Rattle.command_line.specs.EditionOptions.{option_rule}
use Rattle.command_line.specs.Flags.{flag_rule}
use Rattle.command_line.specs.PublishCommand.{publish_name}
use Rattle.command_line.specs.ChangesCommand.{changes_name}
use Rattle.command_line.specs.ProveCommand.{prove_name}
use Rattle.command_line.specs.CheckCommand.{check_name}
use Rattle.command_line.specs.FetchCommand.{fetch_name}
use Rattle.command_line.specs.PackCommand.{pack_name}
use Rattle.command_line.specs.QueryCommand.{query_name}
use Rattle.command_line.specs.ServeCommand.{serve_name}
use Rattle.command_line.specs.RelayCommand.{relay_name}
use Rattle.command_line.specs.ExplainCommand.{explain_name}

-- the command is this one to clap, and has no argument that its subcommands share
abbrev pub IsCommand : App → Command → Type 0
IsCommand app c = (app_of c ≡ app) × ((fields_of c).has_globals ≡ false)

-- the name of a command
abbrev pub IsCommandName : Text → Type 0
IsCommandName name =
    (name ≡ ask_name) ⊎ ((name ≡ publish_name) ⊎ ((name ≡ changes_name) ⊎ ((name ≡ prove_name) ⊎ ((name ≡ check_name)
    ⊎ ((name ≡ fetch_name) ⊎ ((name ≡ pack_name) ⊎ ((name ≡ query_name) ⊎ ((name ≡ serve_name) ⊎ ((name ≡ relay_name) ⊎ (name ≡ explain_name))))))))))

-- the rule of an argument of this name, whose words are read as texts
abbrev pub placed_rule : Place → Text → Rule
placed_rule Positional name = wanted name
placed_rule (Option value_name) name = option_rule name
placed_rule (RepeatedOption value_name) name = record (option_rule name) { action = Some Append }
placed_rule Flag name = flag_rule name

-- the same rule, where this is read of the words
abbrev pub valued_rule : Value → Rule → Rule
valued_rule AnyText rule = rule
valued_rule U16 rule = record rule { parser = Some (parser.Signed (pos 0) (pos 65535)) }
valued_rule U32 rule = record rule { parser = Some (parser.Signed (pos 0) (pos 4294967295)) }
valued_rule U64 rule = record rule { parser = Some (parser.Unsigned 0 18446744073709551615) }

-- the rule of an argument
abbrev pub argument_rule : Argument → Rule
argument_rule argument = valued_rule argument.value (placed_rule argument.place argument.name.now)

-- a command with these arguments, in order
abbrev pub with_arguments : App → List Argument → App
with_arguments app [] = app
with_arguments app (argument ∷ arguments) = with_arguments (with_rule app (argument_rule argument)) arguments
