use Rattle.std.proofs.Common.{◌≡◌, ◌-◌, ◌≤◌, List, length, sym, ap, ◌∙◌, arith}
use Rattle.std.specs.List.{slice_get}
use Rattle.std.specs.Option.{option_copied}
use Rattle.tree_build.specs.declared.old_node.OldNode.{OldNode}
use Rattle.tree_build.proofs.StepLoops.{wanted_after, wanted_first, wanted_never, wanted_none}
use Rattle.tree_build.proofs.TreeEdits.{empty_list}
use Rattle.tree_build.proofs.step.next_wanted.Goals as goal

pub returns-in-Some : goal.returns-in-Some
returns-in-Some g c =
    let none : length c.args.work.now.pending.items ≡ 0 = grind arith in
    wanted_first c.args.work.now.olds.items c.args.work.now.pending.items c.args.rest.now c.in-Some.change.now (empty_list c.args.work.now.pending.items none) (sym c.first.ensures.value ∙ ap option_copied c.in-Some.is)

pub returns-in-None : goal.returns-in-None
returns-in-None g c =
    let none : length c.args.work.now.pending.items ≡ 0 = grind arith in
    wanted_none c.args.work.now.olds.items c.args.work.now.pending.items c.args.rest.now (empty_list c.args.work.now.pending.items none) (sym c.first.ensures.value ∙ ap option_copied c.in-None.is)

pub returns-in-Some-last : goal.returns-in-Some-last
returns-in-Some-last g c =
    let some : 1 ≤ length c.args.work.now.pending.items = grind arith in
    wanted_after c.args.work.now.olds.items c.args.work.now.pending.items c.args.rest.now c.in-Some-last.old.now some
    (ap (λ (xs : List OldNode). slice_get xs (length xs - 1)) (sym c.deref.ensures.value) ∙ sym c.last.ensures.value ∙ ap option_copied c.in-Some-last.is)

pub returns-in-None-last : goal.returns-in-None-last
returns-in-None-last g c =
    let some : 1 ≤ length c.args.work.now.pending.items = grind arith in
    wanted_never c.args.work.now.olds.items c.args.work.now.pending.items c.args.rest.now some
    (ap (λ (xs : List OldNode). slice_get xs (length xs - 1)) (sym c.deref.ensures.value) ∙ sym c.last.ensures.value ∙ ap option_copied c.in-None-last.is)
