use Rattle.std.proofs.Common.{◌∙◌, ap}
use Rattle.std.proofs.lemmas.Result.{IfOk-weaker}
use Rattle.clap.specs.Words.{App, with_subcommand}
use Rattle.command_line.specs.CheckCommand.{check_app}
use Rattle.command_line.specs.FetchCommand.{fetch_app}
use Rattle.command_line.proofs.program_command.checking_program.Goals as goal

pub returns : goal.returns
returns c =
    let checks = c.in_ok-program-2.ensures.command check_app (IfOk-weaker c.check_command.result _ _ (λ r h. h.0) c.check_command.ensures) in
    let one = checks.0 ∙ ap (λ (program : App). with_subcommand program check_app.top) c.in_ok-program.ensures.0 in
    IfOk-weaker c.and_command-2.result _ _ (λ r h. (h.0 ∙ ap (λ (program : App). with_subcommand program fetch_app.top) one, h.1))
    (c.and_command-2.ensures.command fetch_app (IfOk-weaker c.fetch_command.result _ _ (λ r h. h.0) c.fetch_command.ensures))
