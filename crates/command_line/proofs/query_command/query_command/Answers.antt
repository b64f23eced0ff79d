use Rattle.std.proofs.Common.{◌∙◌, ap, ap₂, codes}
use Rattle.std.proofs.lemmas.Result.{IfOk-weaker}
use Rattle.clap.specs.Words.{App, new_app, with_rule}
use Rattle.command_line.specs.Arguments.{wanted}
use Rattle.command_line.specs.QueryCommand.{query_name}
use Rattle.command_line.proofs.query_command.query_command.Goals as goal

pub returns : goal.returns
returns c =
    let begun : App = with_rule (with_rule (with_rule (new_app query_name) (wanted (codes "ROOT"))) (wanted (codes "PLACE"))) (wanted (codes "QUERY")) in
    let with_form = ap (with_rule begun) c.form_option.ensures in
    let with_max_bytes = ap₂ with_rule with_form c.max_bytes_option.ensures in
    let told = ap₂ with_rule with_max_bytes c.max_work_option.ensures in
    IfOk-weaker c.command_with.result _ _ (λ r h. (h.0 ∙ told, h.1)) c.command_with.ensures
