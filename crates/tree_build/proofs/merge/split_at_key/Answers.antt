use Rattle.std.proofs.Common.{◌≡◌, ◌↔◌, IsTrue, ℕ, List, length, take, sym, subst, ◌∙◌, arith}
use Rattle.std.specs.List.{AllByRecursion}
use Rattle.std.proofs.Math.Seq.{take-length}
use Rattle.tree_node.specs.Order.{IsBelow}
use Rattle.tree_build.proofs.SplitLemmas.{neither, split_below, split_end, split_same}
use Rattle.tree_build.proofs.merge.split_at_key.Goals as goal

pub returns-then-is_below-clause-changed : goal.returns-then-is_below-clause-changed
returns-then-is_below-clause-changed g c = λ change same.
    let count = c.loop-item.invariant.count in
    let low = subst (λ (k : List ℕ). AllByRecursion (λ y. IsBelow (g.T.NodeItem.key_of y) k) (take c.loop-item.at c.args.items.now)) (sym same) c.loop-item.invariant.below in
    let below = c.is_below-then-not-is_below.ensures.0 c.if-is_below.true in
    split_below g.T.NodeItem.key_of c.args.items.now c.loop-item.at change c.item-item.result (omega arith) (rw count c.item-item.is) low
    (rw (same, ← c.key-then-not-is_below.ensures) below)

pub returns-then-not-is_below-clause-changed : goal.returns-then-not-is_below-clause-changed
returns-then-not-is_below-clause-changed g c = λ change same.
    let count = c.loop-item.invariant.count in
    let low = subst (λ (k : List ℕ). AllByRecursion (λ y. IsBelow (g.T.NodeItem.key_of y) k) (take c.loop-item.at c.args.items.now)) (sym same) c.loop-item.invariant.below in
    let one : IsTrue c.is_below.result ↔ IsBelow (g.T.NodeItem.key_of c.item-item.result) c.args.key.now = rw (← c.key.ensures) c.is_below.ensures in
    let two : IsTrue c.is_below-then-not-is_below.result ↔ IsBelow c.args.key.now (g.T.NodeItem.key_of c.item-item.result) = rw (← c.key-then-not-is_below.ensures) c.is_below-then-not-is_below.ensures in
    let equal = neither (g.T.NodeItem.key_of c.item-item.result) c.args.key.now c.is_below.result c.is_below-then-not-is_below.result one two c.if-not-is_below.true c.if-is_below.false in
    split_same g.T.NodeItem.key_of c.args.items.now c.loop-item.at change c.item-item.result (omega arith) (rw count c.item-item.is) low (same ∙ sym equal)

pub returns-clause-changed : goal.returns-clause-changed
returns-clause-changed g c = λ change same.
    let all : c.loop-item.at ≡ length c.args.items.now = omega arith in
    let low = subst (λ n. AllByRecursion (λ y. IsBelow (g.T.NodeItem.key_of y) c.args.key.now) (take n c.args.items.now)) all c.loop-item.invariant.below in
    let taken : take (length c.args.items.now) c.args.items.now ≡ c.args.items.now = take-length c.args.items.now in
    split_end g.T.NodeItem.key_of c.args.items.now change (rw same (rw taken at low))
