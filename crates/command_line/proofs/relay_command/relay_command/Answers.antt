use Rattle.std.proofs.Common.{◌∙◌, ap, ap₂, codes}
use Rattle.std.proofs.lemmas.Result.{IfOk-weaker}
use Rattle.clap.specs.Words.{App, new_app, with_rule}
use Rattle.command_line.specs.Arguments.{wanted}
use Rattle.command_line.specs.RelayCommand.{relay_name}
use Rattle.command_line.proofs.relay_command.relay_command.Goals as goal

pub returns : goal.returns
returns c =
    let begun : App = with_rule (with_rule (new_app relay_name) (wanted (codes "ROOT"))) (wanted (codes "HOST:PORT")) in
    let with_port = ap (with_rule begun) c.port_argument.ensures in
    let with_fallback = ap₂ with_rule with_port c.fallback_option.ensures in
    let with_root_file = ap₂ with_rule with_fallback c.root_file_option.ensures in
    let with_connections = ap₂ with_rule with_root_file c.connections_option.ensures in
    let told = ap₂ with_rule with_connections c.max_work_option.ensures in
    IfOk-weaker c.command_with.result _ _ (λ r h. (h.0 ∙ told, h.1)) c.command_with.ensures
