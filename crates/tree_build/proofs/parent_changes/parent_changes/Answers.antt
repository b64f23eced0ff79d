use Rattle.std.proofs.Common.{◌≡◌, ◌+◌, ◌++◌, [], List, length, drop, sym, ap, subst, ◌∙◌, arith}
use Rattle.tree_node.specs.NodeRefs.{link_of}
use Rattle.tree_build.specs.declared.old_node.OldNode.{OldNode}
use Rattle.tree_build.specs.internal.Differing.{Differ, gained_by, gone_changes}
use Rattle.tree_build.specs.internal.Edits.{StandForNodes}
use Rattle.tree_build.specs.internal.ItemChanges.{changes_meant}
use Rattle.tree_build.proofs.DifferLemmas.{IsMerging, merging_done, merging_next, merging_start, next_item}
use Rattle.tree_build.proofs.GrowLemmas.{none_left}
use Rattle.tree_build.proofs.StepLoops.{rest_is, within_rest}
use Rattle.tree_build.proofs.parent_changes.parent_changes.Goals as goal

pub loop-new-init : goal.loop-new-init
loop-new-init c = record {
  within = omega arith;
  so_far = λ olds news stand. ([], [], merging_start olds news _ _ _ (ap (changes_meant link_of) c.new-changes.ensures.items) stand);
}

pub loop-new-preserved : goal.loop-new-preserved
loop-new-preserved c =
    let olds_now = c.as_slice-olds.result.now in
    let changes = changes_meant link_of c.loop-new.changes.items in
    let step = c.merge_step-step.result in record {
      within = within_rest olds_now c.loop-new.done step.up_to c.loop-new.invariant.within c.merge_step-step.ensures.within;
      so_far = λ olds news stand.
          let (lost, gained, so) = c.loop-new.invariant.so_far olds news stand in
          let next = next_item c.deref-new-items.result.now c.args.edit.now.news.items c.loop-new.new-index c.new-item.result c.deref-new-items.ensures.value c.loop-new-test.true c.new-item.is in
          let on = merging_next olds news olds_now c.loop-new.done step.up_to lost gained changes _ _ _ _ _ _ next so c.merge_step-step.ensures.goes_on in
          let more_lost = lost ++ on.now_lost in
          let more_gained = gained ++ gained_by step.is_new on.node in (
            more_lost,
            more_gained,
            subst (λ cs. IsMerging olds news (drop (c.loop-new.done + step.up_to) olds_now) (drop (c.loop-new.new-index + 1) c.args.edit.now.news.items) more_lost more_gained cs)
                (sym (c.in_ok-push_step_changes.ensures on.node on.stands)) on.merging,
          );
    }

pub returns : goal.returns
returns c = λ olds news stand.
    let olds_now = c.as_slice-olds.result.now in
    let changes = changes_meant link_of c.loop-new.changes.items in
    let (lost, gained, so) = c.loop-new.invariant.so_far olds news (subst (λ (os : List OldNode). StandForNodes os c.args.edit.now.news.items olds news) (sym c.as_slice-olds.ensures.value) stand) in
    let end : drop c.loop-new.new-index c.args.edit.now.news.items ≡ [] = none_left c.args.edit.now.news.items c.loop-new.new-index (omega (arith, ap length c.deref-new-items.ensures.value)) in
    let done = merging_done olds news _ _ lost gained changes end so in
    record {
      lost = lost ++ done.left;
      gained = gained;
      parent_changes = subst (λ cs. Differ olds news (lost ++ done.left) gained cs) (sym (c.in_ok-push_gone.ensures ∙ ap (λ (os : List OldNode). changes ++ gone_changes os) (rest_is olds_now c.loop-new.done))) done.parent_changes;
    }
