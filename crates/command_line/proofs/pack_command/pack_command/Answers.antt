use Rattle.std.proofs.Common.{◌∙◌, ap, ap₂, codes}
use Rattle.std.proofs.lemmas.Result.{IfOk-weaker}
use Rattle.clap.specs.Words.{App, new_app, with_rule}
use Rattle.command_line.specs.Arguments.{wanted}
use Rattle.command_line.specs.PackCommand.{pack_name}
use Rattle.command_line.proofs.pack_command.pack_command.Goals as goal

pub returns : goal.returns
returns c =
    let begun : App = with_rule (with_rule (new_app pack_name) (wanted (codes "FILE"))) (wanted (codes "PACK")) in
    let with_add = ap (with_rule begun) c.add_option.ensures in
    let with_compact = ap₂ with_rule with_add c.compact_option.ensures in
    let with_memory = ap₂ with_rule with_compact c.memory_option.ensures in
    let with_temp = ap₂ with_rule with_memory c.temp_option.ensures in
    let with_edition = ap₂ with_rule with_temp c.edition_option.ensures in
    let told = ap₂ with_rule with_edition c.sequence_option.ensures in
    IfOk-weaker c.command_with.result _ _ (λ r h. (h.0 ∙ told, h.1)) c.command_with.ensures
