use Rattle.std.proofs.Common.{◌≡◌, [], List, length, sym, ap, subst, ◌∙◌, arith}
use Rattle.std.specs.Vec.Iter.{into_iter_items}
use Rattle.tree_build.specs.declared.old_node.OldNode.{OldNode}
use Rattle.tree_build.specs.declared.piece.NewPiece.{NewPiece}
use Rattle.tree_build.specs.internal.Edits.{Each, IsOldNode, StandForNodes}
use Rattle.tree_build.proofs.StepLoops.{rest_is, within_rest}
use Rattle.tree_build.proofs.TellLemmas.{telling_done, telling_next, telling_start}
use Rattle.tree_build.proofs.TreeEdits.{empty_list}
use Rattle.tree_build.proofs.level_diff.push_level_diff.Goals as goal

pub loop-new-init : goal.loop-new-init
loop-new-init c =
    let items = c.into_iter-new-iterator.ensures.into_iter_gives.0 in record {
      within = omega arith;
      count = c.into_iter-new-iterator.ensures.into_iter_gives.1 ∙ c.args.news.ok.0 ∙ ap length (sym items);
      so_far = λ olds news stand. telling_start olds news _ _ _ _ (subst (λ (ns : List NewPiece). StandForNodes c.args.olds.now ns olds news) (sym items) stand);
    }

pub loop-new-preserved : goal.loop-new-preserved
loop-new-preserved c =
    let steps = c.in-Some.ensures.steps in
    let step = c.merge_step-step.result in record {
      within = within_rest c.args.olds.now c.loop-new.done step.up_to c.loop-new.invariant.within c.merge_step-step.ensures.within;
      count = omega (arith, c.loop-new.invariant.count, steps.1, ap length steps.0);
      so_far = λ olds news stand.
          telling_next olds news c.args.olds.now c.loop-new.done step.up_to _ _ _ _ _ _ _ _ _ _ _ _ steps.0 (c.loop-new.invariant.so_far olds news stand)
          c.merge_step-step.ensures.goes_on c.in_ok-push_gone_digests.ensures c.in_ok-push_if_new.ensures;
    }

pub returns : goal.returns
returns c = λ olds news stand.
    let end : into_iter_items c.loop-new.new-iterator ≡ [] = empty_list (into_iter_items c.loop-new.new-iterator) (sym c.loop-new.invariant.count ∙ c.in-None.ensures.steps.0) in
    telling_done olds news _ _ _ _ _ _ _ end (c.loop-new.invariant.so_far olds news stand)
    (λ nodes old_stand. c.in_ok-push_gone_digests-2.ensures nodes (subst (λ (os : List OldNode). Each IsOldNode os nodes) (sym (rest_is c.args.olds.now c.loop-new.done)) old_stand))
