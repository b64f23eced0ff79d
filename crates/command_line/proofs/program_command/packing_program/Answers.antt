use Rattle.std.proofs.Common.{◌∙◌, ap}
use Rattle.std.proofs.lemmas.Result.{IfOk-weaker}
use Rattle.clap.specs.Words.{App, with_subcommand}
use Rattle.command_line.specs.PackCommand.{pack_app}
use Rattle.command_line.specs.QueryCommand.{query_app}
use Rattle.command_line.proofs.program_command.packing_program.Goals as goal

pub returns : goal.returns
returns c =
    let packs = c.in_ok-program-2.ensures.command pack_app (IfOk-weaker c.pack_command.result _ _ (λ r h. h.0) c.pack_command.ensures) in
    let one = packs.0 ∙ ap (λ (program : App). with_subcommand program pack_app.top) c.in_ok-program.ensures.0 in
    IfOk-weaker c.and_command-2.result _ _ (λ r h. (h.0 ∙ ap (λ (program : App). with_subcommand program query_app.top) one, h.1))
    (c.and_command-2.ensures.command query_app (IfOk-weaker c.query_command.result _ _ (λ r h. h.0) c.query_command.ensures))
