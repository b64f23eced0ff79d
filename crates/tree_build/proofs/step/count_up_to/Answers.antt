use Rattle.std.proofs.Common.{◌≡◌, ◌+◌, ◌<◌, length, get_or, List, take, ◌++◌, ◌∷◌, [], true, subst, sym, ap, ◌∙◌, add-one, arith}
use Rattle.std.specs.List.{AllByRecursion}
use Rattle.std.proofs.Math.Seq.{take-suc}
use Rattle.tree_build.specs.declared.level_item.ItemChange.{ItemChange}
use Rattle.tree_build.specs.internal.RisingChanges.{IsUpTo}
use Rattle.tree_build.proofs.ChangeLemmas.{all_append}
use Rattle.tree_build.proofs.SeekLemmas.{not_reached}
use Rattle.tree_build.proofs.step.count_up_to.Goals as goal

pub loop-change-preserved : goal.loop-change-preserved
loop-change-preserved g c =
    let C = ItemChange g.row.T.Denot in
    let P : C → Type 0 = λ (change : C). IsUpTo change.key.now c.args.key.now in
    let at = c.loop-change.count in
    let count : at ≡ c.loop-change.change-index = c.loop-change.invariant.count in
    let lt : at < length c.args.changes.now = omega arith in
    let is : c.change-item.result ≡ get_or c.args.changes.now at c.change-item.result = c.change-item.is ∙ ap (λ n. get_or c.args.changes.now n c.change-item.result) (sym count) in
    let next : take (at + 1) c.args.changes.now ≡ take at c.args.changes.now ++ c.change-item.result ∷ [] =
    ap (λ n. take n c.args.changes.now) (add-one at) ∙ take-suc c.args.changes.now at c.change-item.result lt ∙ ap (λ (x : C). take at c.args.changes.now ++ x ∷ []) (sym is) in
    let here : P c.change-item.result = not_reached c.args.key.now true c.change-item.result.key.now c.is_below.result c.is_below.ensures c.if-is_below.false in
    record {
      count = omega arith;
      up_to = subst (λ (cs : List C). AllByRecursion P cs) (sym next) (all_append P (take at c.args.changes.now) (c.change-item.result ∷ []) c.loop-change.invariant.up_to (here, tt));
    }
