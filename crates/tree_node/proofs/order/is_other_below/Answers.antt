use Rattle.std.proofs.Common.{◌≡◌, ◌∙◌, ap, sym, refl, arith}
use Rattle.std.specs.Int.{from_be_bytes, w64}
use Rattle.tree_node.specs.Order.{order}
use Rattle.tree_node.proofs.shared.FieldLemmas.{AreBytes-drop}
use Rattle.tree_node.proofs.shared.WordOrder.{equal_words, unequal_words}
use Rattle.tree_node.proofs.order.is_other_below.Goals as goal

pub loop-low_left-init : goal.loop-low_left-init
loop-low_left-init c = record {
  same = refl;
  low_bytes = λ i. omega (arith, c.type_inv.low i);
  high_bytes = λ i. omega (arith, c.type_inv.high i);
}

pub returns-then-low_number-high_number : goal.returns-then-low_number-high_number
returns-then-low_number-high_number c =
    let i = c.loop-low_left.invariant in
    let is = unequal_words c.loop-low_left.low_left.now c.loop-low_left.high_left.now i.low_bytes i.high_bytes (omega arith) (omega arith)
    c.number-low_number.result c.number-high_number.result (c.number-low_number.ensures ∙ ap (from_be_bytes w64) c.split_at.ensures.front) (c.number-high_number.ensures ∙ ap (from_be_bytes w64) c.split_at-in-loop-low_left.ensures.front)
    c.if-low_number-high_number.true in
    ((λ t. i.same ∙ is.0 t), (λ below. is.1 (sym i.same ∙ below)))

pub loop-low_left-preserved : goal.loop-low_left-preserved
loop-low_left-preserved c =
    let i = c.loop-low_left.invariant in
    let same : order c.loop-low_left.low_left.now c.loop-low_left.high_left.now ≡ order c.split_at.result.1.now c.split_at-in-loop-low_left.result.1.now =
    equal_words c.loop-low_left.low_left.now c.loop-low_left.high_left.now i.low_bytes i.high_bytes (omega arith) (omega arith)
    c.number-low_number.result c.number-high_number.result (c.number-low_number.ensures ∙ ap (from_be_bytes w64) c.split_at.ensures.front) (c.number-high_number.ensures ∙ ap (from_be_bytes w64) c.split_at-in-loop-low_left.ensures.front)
    c.if-low_number-high_number.false
    ∙ (λ i. order (sym c.split_at.ensures.back i) (sym c.split_at-in-loop-low_left.ensures.back i)) in
    record {
      same = i.same ∙ same;
      low_bytes = rw (c.split_at.ensures.back) (AreBytes-drop 8 c.loop-low_left.low_left.now i.low_bytes);
      high_bytes = rw (c.split_at-in-loop-low_left.ensures.back) (AreBytes-drop 8 c.loop-low_left.high_left.now i.high_bytes);
    }
