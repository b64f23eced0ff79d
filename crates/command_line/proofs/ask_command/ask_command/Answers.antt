use Rattle.std.proofs.Common.{◌∙◌, ap, codes}
use Rattle.std.proofs.lemmas.Result.{IfOk-weaker}
use Rattle.clap.specs.Words.{App, new_app, with_rule}
use Rattle.command_line.specs.Arguments.{wanted}
use Rattle.command_line.specs.AskCommand.{ask_name}
use Rattle.command_line.proofs.ask_command.ask_command.Goals as goal

pub returns : goal.returns
returns c =
    let begun : App = with_rule (new_app ask_name) (wanted (codes "QUERY")) in
    let told = ap (with_rule begun) c.form_option.ensures in
    IfOk-weaker c.command_with.result _ _ (λ r h. (h.0 ∙ told, h.1)) c.command_with.ensures
