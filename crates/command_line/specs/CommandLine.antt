-- The program's command line, as clap defines it.
-- Source: this project.
use Rattle.std.specs.Prelude.{codes, true}
use Rattle.clap.specs.Words.{App, new_app, with_subcommand}
use Rattle.command_line.specs.AskCommand.{ask_app}
use Rattle.command_line.specs.PublishCommand.{publish_app}
use Rattle.command_line.specs.ChangesCommand.{changes_app}
use Rattle.command_line.specs.ProveCommand.{prove_app}
use Rattle.command_line.specs.CheckCommand.{check_app}
use Rattle.command_line.specs.FetchCommand.{fetch_app}
use Rattle.command_line.specs.PackCommand.{pack_app}
use Rattle.command_line.specs.QueryCommand.{query_app}
use Rattle.command_line.specs.ServeCommand.{serve_app}
use Rattle.command_line.specs.RelayCommand.{relay_app}
use Rattle.command_line.specs.ExplainCommand.{explain_app}

-- the program, which has a version, and of which a command is required; its help is no command
abbrev pub bare_app : App
bare_app = let app = new_app (codes "osm_mirror") in
    record app { top = record app.top { has_version = true; subcommand_required = true; disable_help_subcommand = true } }

-- with the commands that read a set
abbrev pub set_app : App
set_app = with_subcommand (with_subcommand (with_subcommand (with_subcommand bare_app ask_app.top) publish_app.top) changes_app.top) prove_app.top

-- and with those that check answers
abbrev pub checking_app : App
checking_app = with_subcommand (with_subcommand set_app check_app.top) fetch_app.top

-- and with those that write a pack and find answers in it
abbrev pub packing_app : App
packing_app = with_subcommand (with_subcommand checking_app pack_app.top) query_app.top

-- one level of commands
abbrev pub program_app : App
program_app = with_subcommand (with_subcommand (with_subcommand packing_app serve_app.top) relay_app.top) explain_app.top
