use Rattle.std.proofs.Common.{◌∙◌, ap, ap₂, codes}
use Rattle.std.proofs.lemmas.Result.{IfOk-weaker}
use Rattle.clap.specs.Words.{App, new_app, with_rule}
use Rattle.command_line.specs.Arguments.{wanted}
use Rattle.command_line.specs.ProveCommand.{prove_name}
use Rattle.command_line.proofs.prove_command.prove_command.Goals as goal

pub returns : goal.returns
returns c =
    let begun : App = with_rule (with_rule (with_rule (with_rule (new_app prove_name) (wanted (codes "FILE"))) (wanted (codes "QUERYFILE"))) (wanted (codes "ANSWERFILE"))) (wanted (codes "PROOFFILE")) in
    let with_edition = ap (with_rule begun) c.edition_option.ensures in
    let told = ap₂ with_rule with_edition c.sequence_option.ensures in
    IfOk-weaker c.command_with.result _ _ (λ r h. (h.0 ∙ told, h.1)) c.command_with.ensures
