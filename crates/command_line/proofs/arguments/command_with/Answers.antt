use Rattle.std.proofs.Common.{◌≡◌, ◌∙◌, ap, sym, suc, drop, add-one, false, rules}
use Rattle.std.proofs.Math.ListN.{drop_of_length-le}
use Rattle.std.proofs.Math.Seq.{drop-cons}
use Rattle.clap.specs.Words.{App, app_of, new_app}
use Rattle.clap.specs.declared.builder.command.Command.TheViews.{out-Command as fields_of}
use Rattle.command_line.specs.internal.Commands.{with_arguments}
use Rattle.command_line.proofs.arguments.command_with.Goals as goal

pub loop-argument-init : goal.loop-argument-init
loop-argument-init c =
    let begun : app_of c.about-command.result ≡ new_app c.args.name.now = search rules in
    let local : (fields_of c.about-command.result).has_globals ≡ false = search rules in
    (ap (λ (app : App). with_arguments app c.args.arguments.now) begun, local)

pub loop-argument-preserved : goal.loop-argument-preserved
loop-argument-preserved c =
    let given = c.args.arguments.now in
    let at = c.loop-argument.argument-index in
    let before = app_of c.loop-argument.command in
    let next = ap (λ n. with_arguments (app_of c.in_ok-command.command) (drop n given)) (add-one at) in
    let joined = ap (λ (app : App). with_arguments app (drop (suc at) given)) c.in_ok-command.ensures.0 in
    let first = ap (with_arguments before) (drop-cons given at _ c.loop-argument-test.true) in
    (next ∙ joined ∙ sym first ∙ c.loop-argument.invariant.0, c.in_ok-command.ensures.1)

pub returns : goal.returns
returns c =
    let none = drop_of_length-le c.args.arguments.now c.loop-argument-test.false in
    (ap (with_arguments (app_of c.loop-argument.command)) (sym none) ∙ c.loop-argument.invariant.0, c.loop-argument.invariant.1)
