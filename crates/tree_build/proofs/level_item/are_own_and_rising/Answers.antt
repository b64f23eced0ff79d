use Rattle.std.proofs.Common.{ap, refl}
use Rattle.std.specs.Option.{option_copied}
use Rattle.tree_build.specs.internal.ItemChanges.{change_meant, changes_meant}
use Rattle.tree_build.proofs.FitChecks.{rising_left_end, rising_left_first, rising_left_next, rising_left_start}
use Rattle.tree_build.proofs.GrowLemmas.{none_left}
use Rattle.tree_build.proofs.PendingLemmas.{next_mapped}
use Rattle.tree_build.proofs.level_item.are_own_and_rising.Goals as goal
use Rattle.tree_build.proofs.level_item.are_own_and_rising.Goals.{then-not-is_above-via-then-not-is_above, then-not-is_above-via-else-not-is_above+then-not-is_own}

pub loop-change-init : goal.loop-change-init
loop-change-init g c = rising_left_start g.T.NodeItem.key_in (changes_meant g.T.NodeItem.meaning c.args.changes.now)

pub returns-then-not-is_above : goal.returns-then-not-is_above
returns-then-not-is_above g c =
    let next = next_mapped (change_meant g.T.NodeItem.meaning) c.args.changes.now c.loop-change.change-index c.change-item.result c.loop-change-test.true c.change-item.is in (
      (λ yes. absurd cc),
      (λ all.
          let first = rising_left_first g.T.NodeItem.key_in (changes_meant g.T.NodeItem.meaning c.args.changes.now) (option_copied c.loop-change.before) _ (change_meant g.T.NodeItem.meaning c.change-item.result) _ next c.loop-change.invariant all in
          elim c.then-not-is_above.branch [
            | then-not-is_above-via-then-not-is_above w ↦ absurd (let yes = c.is_above.ensures.1 first.0 in cc)
            | then-not-is_above-via-else-not-is_above+then-not-is_own w ↦ absurd (let yes = w.is_own.ensures.1 first.1 in cc)
          ]),
    )

pub loop-change-preserved : goal.loop-change-preserved
loop-change-preserved g c =
    let next = next_mapped (change_meant g.T.NodeItem.meaning) c.args.changes.now c.loop-change.change-index c.change-item.result c.loop-change-test.true c.change-item.is in
    rising_left_next g.T.NodeItem.key_in (changes_meant g.T.NodeItem.meaning c.args.changes.now) (option_copied c.loop-change.before) _ (change_meant g.T.NodeItem.meaning c.change-item.result) _ next
    (c.is_above.ensures.0 c.if-not-is_above.false) (c.is_own.ensures.0 c.if-not-is_own.false) c.loop-change.invariant

pub returns : goal.returns
returns g c =
    let none = ap (changes_meant g.T.NodeItem.meaning) (none_left c.args.changes.now c.loop-change.change-index c.loop-change-test.false) in
    ((λ _. rising_left_end g.T.NodeItem.key_in (changes_meant g.T.NodeItem.meaning c.args.changes.now) (option_copied c.loop-change.before) _ none c.loop-change.invariant), (λ _. refl))
