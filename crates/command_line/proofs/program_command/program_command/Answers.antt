use Rattle.std.proofs.Common.{◌∙◌, ap}
use Rattle.std.proofs.lemmas.Result.{IfOk-weaker}
use Rattle.clap.specs.Words.{App, with_subcommand}
use Rattle.command_line.specs.ExplainCommand.{explain_app}
use Rattle.command_line.specs.RelayCommand.{relay_app}
use Rattle.command_line.specs.ServeCommand.{serve_app}
use Rattle.command_line.proofs.program_command.program_command.Goals as goal

pub returns : goal.returns
returns c =
    let serves = c.in_ok-program-2.ensures.command serve_app (IfOk-weaker c.serve_command.result _ _ (λ r h. h.0) c.serve_command.ensures) in
    let one = serves.0 ∙ ap (λ (program : App). with_subcommand program serve_app.top) c.in_ok-program.ensures.0 in
    let relays = c.in_ok-program-3.ensures.command relay_app (IfOk-weaker c.relay_command.result _ _ (λ r h. h.0) c.relay_command.ensures) in
    let two = relays.0 ∙ ap (λ (program : App). with_subcommand program relay_app.top) one in
    IfOk-weaker c.and_command-3.result _ _ (λ r h. (h.0 ∙ ap (λ (program : App). with_subcommand program explain_app.top) two, h.1))
    (c.and_command-3.ensures.command explain_app (IfOk-weaker c.explain_command.result _ _ (λ r h. h.0) c.explain_command.ensures))
