use Rattle.std.proofs.Common.{◌∙◌, ap}
use Rattle.std.proofs.lemmas.Result.{IfOk-weaker}
use Rattle.clap.specs.Words.{App, with_subcommand}
use Rattle.command_line.specs.AskCommand.{ask_app}
use Rattle.command_line.specs.ChangesCommand.{changes_app}
use Rattle.command_line.specs.ProveCommand.{prove_app}
use Rattle.command_line.specs.PublishCommand.{publish_app}
use Rattle.command_line.proofs.program_command.set_program.Goals as goal

pub returns : goal.returns
returns c =
    let asks = c.in_ok-program.ensures.command ask_app (IfOk-weaker c.ask_command.result _ _ (λ r h. h.0) c.ask_command.ensures) in
    let one = asks.0 ∙ ap (λ (program : App). with_subcommand program ask_app.top) c.bare_program.ensures.0 in
    let publishes = c.in_ok-program-2.ensures.command publish_app (IfOk-weaker c.publish_command.result _ _ (λ r h. h.0) c.publish_command.ensures) in
    let two = publishes.0 ∙ ap (λ (program : App). with_subcommand program publish_app.top) one in
    let changes = c.in_ok-program-3.ensures.command changes_app (IfOk-weaker c.changes_command.result _ _ (λ r h. h.0) c.changes_command.ensures) in
    let three = changes.0 ∙ ap (λ (program : App). with_subcommand program changes_app.top) two in
    IfOk-weaker c.and_command-4.result _ _ (λ r h. (h.0 ∙ ap (λ (program : App). with_subcommand program prove_app.top) three, h.1))
    (c.and_command-4.ensures.command prove_app (IfOk-weaker c.prove_command.result _ _ (λ r h. h.0) c.prove_command.ensures))
