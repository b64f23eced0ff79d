use Rattle.std.proofs.Common.{◌≡◌, ◌+◌, ◌∷◌, ◌++◌, suc, List, drop, refl, sym, ap, subst, ◌∙◌, append_assoc, add-one}
use Rattle.std.proofs.Math.Seq.{drop-cons}
use Rattle.tree_build.specs.Changing.{Change, changed, one_or_none}
use Rattle.tree_build.specs.internal.RisingChanges.{AreOwnAndRising}
use Rattle.tree_build.specs.internal.ItemChanges.{change_in, changes_in}
use Rattle.tree_build.specs.declared.level_item.ItemChange.{ItemChange}
use Rattle.tree_build.proofs.ChangeLemmas.{merge_step}
use Rattle.tree_build.proofs.merge.merge.Goals as goal

pub loop-change-preserved : goal.loop-change-preserved
loop-change-preserved g c =
    let X = g.row.T.Denot in
    let key = g.T.NodeItem.key_of in
    let at = c.loop-change.change-index in
    let changes = c.args.changes.now in
    let item = c.change-item.result in
    let change = change_in item in
    let others = changes_in (drop (at + 1) changes) in
    let before = c.split_at_key.result.0.now in
    let behind = c.split_at_key.result.1.now in
    let next : drop at changes ≡ item ∷ drop (at + 1) changes =
    drop-cons changes at item c.loop-change-test.true ∙ ap (λ (y : ItemChange X). y ∷ drop (suc at) changes) (sym c.change-item.is) ∙ ap (λ n. item ∷ drop n changes) (sym (add-one at)) in
    let here : changes_in (drop at changes) ≡ change ∷ others = ap changes_in next in
    let rising = subst (λ (cs : List (Change X)). AreOwnAndRising key cs) here c.loop-change.invariant.rising in
    let step = merge_step key c.loop-change.rest.now before behind change others (c.split_at_key.ensures.changed change refl) c.split_at_key.ensures.below rising in
    record {
      whole = c.loop-change.invariant.whole
          ∙ ap (λ (cs : List (Change X)). c.loop-change.merged.items ++ changed key c.loop-change.rest.now cs) here
          ∙ ap (λ (ys : List X). c.loop-change.merged.items ++ ys) step
          ∙ sym (append_assoc c.loop-change.merged.items (before ++ one_or_none change.put) (changed key behind others))
          ∙ ap (λ (ys : List X). ys ++ changed key behind others) (sym (append_assoc c.loop-change.merged.items before (one_or_none change.put)) ∙ ap (λ (ys : List X). ys ++ one_or_none change.put) (sym c.in_ok-extend_from_slice.ensures.items) ∙ sym c.in_ok-push_some.ensures);
      rising = rising.2;
    }
