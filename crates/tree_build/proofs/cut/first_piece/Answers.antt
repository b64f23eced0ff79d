use Rattle.std.proofs.Common.{◌≡◌, ◌≢◌, ◌+◌, length, get_or, take, drop, arith, refl, sym, ap, ◌∙◌}
use Rattle.std.proofs.Math.Seq.{take-length, drop-length}
use Rattle.tree_build.specs.Shapes.{shape_of}
use Rattle.tree_node.specs.Trees.{ends_by, pieces_from}
use Rattle.tree_node.proofs.shared.PieceLaws.{goes_on}
use Rattle.tree_build.proofs.CutLemmas.{one_more, ends_here, ends_with_list}
use Rattle.tree_build.proofs.cut.first_piece.Goals as goal

pub returns-then-ends_after : goal.returns-then-ends_after
returns-then-ends_after g c =
    let invariant = c.loop-item.invariant in
    ends_here (ends_by (shape_of c.args.shape) g.T.Cut.marked) c.args.items.now c.loop-item.len c.item-item.result (omega (arith, invariant.count))
    (c.item-item.is ∙ ap (λ n. get_or c.args.items.now n c.item-item.result) (sym invariant.count))
    invariant.going_on invariant.few (sym c.ends_after.ensures ∙ c.if-ends_after.true)

pub loop-item-preserved : goal.loop-item-preserved
loop-item-preserved g c =
    let invariant = c.loop-item.invariant in
    let ends = ends_by (shape_of c.args.shape) g.T.Cut.marked in
    let not_last : c.loop-item.len + 1 ≢ 64 = goes_on (shape_of c.args.shape) g.T.Cut.marked (c.loop-item.len + 1) c.item-item.result (sym c.ends_after.ensures ∙ c.if-ends_after.false) in
    record {
      count = omega (arith, invariant.count);
      few = omega (arith, not_last, invariant.few);
      going_on = one_more ends c.args.items.now c.loop-item.len c.item-item.result (omega (arith, invariant.count))
          (c.item-item.is ∙ ap (λ n. get_or c.args.items.now n c.item-item.result) (sym invariant.count))
          invariant.going_on (sym c.ends_after.ensures ∙ c.if-ends_after.false);
    }

pub returns : goal.returns
returns g c =
    let invariant = c.loop-item.invariant in
    let ends = ends_by (shape_of c.args.shape) g.T.Cut.marked in
    let all : c.loop-item.len ≡ length c.args.items.now = omega (arith, invariant.count) in
    ends_with_list ends c.args.items.now (omega (arith, all, invariant.few))
    (invariant.going_on ∙ ap (λ n. pieces_from ends (take n c.args.items.now) (drop n c.args.items.now)) all ∙ rw (take-length c.args.items.now, drop-length c.args.items.now) refl)
