use Rattle.std.proofs.Common.{◌≡◌, ◌∙◌, ap, sym, arith}
use Rattle.std.specs.Int.{from_be_bytes, w64}
use Rattle.tree_node.specs.Order.{order}
use Rattle.tree_node.proofs.shared.WordOrder.{equal_words, unequal_words}
use Rattle.tree_node.proofs.order.is_long_below.Goals as goal

pub returns-then-low_number-high_number : goal.returns-then-low_number-high_number
returns-then-low_number-high_number c =
    unequal_words c.args.low.now c.args.high.now (λ i. omega (arith, c.type_inv.low i)) (λ i. omega (arith, c.type_inv.high i)) (omega arith) (omega arith)
    c.number-low_number.result c.number-high_number.result (c.number-low_number.ensures ∙ ap (from_be_bytes w64) c.split_at.ensures.front) (c.number-high_number.ensures ∙ ap (from_be_bytes w64) c.split_at-2.ensures.front)
    c.if-low_number-high_number.true

pub returns : goal.returns
returns c =
    let same : order c.args.low.now c.args.high.now ≡ order c.split_at.result.1.now c.split_at-2.result.1.now =
    equal_words c.args.low.now c.args.high.now (λ i. omega (arith, c.type_inv.low i)) (λ i. omega (arith, c.type_inv.high i)) (omega arith) (omega arith)
    c.number-low_number.result c.number-high_number.result (c.number-low_number.ensures ∙ ap (from_be_bytes w64) c.split_at.ensures.front) (c.number-high_number.ensures ∙ ap (from_be_bytes w64) c.split_at-2.ensures.front)
    c.if-low_number-high_number.false
    ∙ (λ i. order (sym c.split_at.ensures.back i) (sym c.split_at-2.ensures.back i)) in
    ((λ is. same ∙ c.is_tail_below.ensures.0 is), (λ below. c.is_tail_below.ensures.1 (sym same ∙ below)))
