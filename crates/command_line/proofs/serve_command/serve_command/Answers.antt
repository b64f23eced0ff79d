use Rattle.std.proofs.Common.{◌∙◌, ap, ap₂, codes}
use Rattle.std.proofs.lemmas.Result.{IfOk-weaker}
use Rattle.clap.specs.Words.{App, new_app, with_rule}
use Rattle.command_line.specs.Arguments.{wanted}
use Rattle.command_line.specs.ServeCommand.{serve_name}
use Rattle.command_line.proofs.serve_command.serve_command.Goals as goal

pub returns : goal.returns
returns c =
    let begun : App = with_rule (new_app serve_name) (wanted (codes "FILE")) in
    let with_port = ap (with_rule begun) c.port_argument.ensures in
    let with_connections = ap₂ with_rule with_port c.connections_option.ensures in
    let with_max_work = ap₂ with_rule with_connections c.max_work_option.ensures in
    let with_changes = ap₂ with_rule with_max_work c.changes_option.ensures in
    let with_strict_changes = ap₂ with_rule with_changes c.strict_changes_option.ensures in
    let with_edition = ap₂ with_rule with_strict_changes c.edition_option.ensures in
    let told = ap₂ with_rule with_edition c.sequence_option.ensures in
    IfOk-weaker c.command_with.result _ _ (λ r h. (h.0 ∙ told, h.1)) c.command_with.ensures
