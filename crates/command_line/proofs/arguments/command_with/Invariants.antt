use Rattle.std.proofs.Common.{◌≡◌, drop, false}
use Rattle.clap.specs.Words.{app_of, new_app}
use Rattle.clap.specs.declared.builder.command.Command.TheViews.{out-Command as fields_of}
use Rattle.command_line.specs.internal.Commands.{with_arguments}
use Rattle.command_line.proofs.arguments.command_with.Given as goal

-- the arguments that are left make the same command of what there is
abbrev pub invariant-loop-argument : goal.invariant-loop-argument
invariant-loop-argument l = (with_arguments (app_of l.command) (drop l.argument-index l.arguments) ≡ with_arguments (new_app l.name) l.arguments)
    × ((fields_of l.command).has_globals ≡ false)
