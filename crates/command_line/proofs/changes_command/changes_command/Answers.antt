use Rattle.std.proofs.Common.{◌∙◌, ap, codes}
use Rattle.std.proofs.lemmas.Result.{IfOk-weaker}
use Rattle.clap.specs.Words.{App, new_app, with_rule}
use Rattle.command_line.specs.Arguments.{wanted}
use Rattle.command_line.specs.ChangesCommand.{changes_name}
use Rattle.command_line.proofs.changes_command.changes_command.Goals as goal

pub returns : goal.returns
returns c =
    let begun : App = with_rule (new_app changes_name) (wanted (codes "FILE")) in
    let with_sequence = ap (with_rule begun) c.sequence_argument.ensures in
    let told = ap (λ (app : App). with_rule app (wanted (codes "CHANGEFILE"))) with_sequence in
    IfOk-weaker c.command_with.result _ _ (λ r h. (h.0 ∙ told, h.1)) c.command_with.ensures
