use Rattle.std.proofs.Common.{◌∙◌, ap}
use Rattle.std.proofs.lemmas.Bool.{or_from}
use Rattle.std.proofs.lemmas.Result.{IfOk-weaker}
use Rattle.clap.specs.Words.{app_of, with_rule}
use Rattle.command_line.proofs.arguments.and_argument.Goals as goal

pub returns : goal.returns
returns c =
    let told = c.arg_of.ensures in
    IfOk-weaker c.arg.result _ _
    (λ r h. (h.shape told.local ∙ ap (with_rule (app_of c.args.command)) told.rule, h.globals ∙ or_from _ _ c.requires told.local)) c.arg.ensures
