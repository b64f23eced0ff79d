use Rattle.std.proofs.Common.{ℕ, List, Option, Bor, ap, subst, sym, ◌∙◌, arith}
use Rattle.std.specs.Option.{option_copied}
use Rattle.std.proofs.lemmas.Result.{err_from_is_err_and}
use Rattle.tree_node.specs.Held.{HoldsEntries}
use Rattle.tree_node.specs.NodeRefs.{binding_of}
use Rattle.tree_node.proofs.shared.NodeLaws.{above_told}
use Rattle.tree_node.proofs.HeldLemmas.{key_or_none, entries_held, entries_last}
use Rattle.tree_node.proofs.SkipLemmas.{entries_fail, entries_stop, entries_go, entries_end}
use Rattle.tree_node.proofs.entries.skip_entries.Goals as goal

pub returns-in_err-item-clause-after : goal.returns-in_err-item-clause-after
returns-in_err-item-clause-after c =
    let p = err_from_is_err_and c.from_residual.result c.from_residual.ensures.1 in
    rw (p.1, p.2) (entries_fail c.args.count c.loop.counter (option_copied c.loop.low) c.loop.rest.now _ c.in_err-item.field-0.0 c.loop-test.true c.in_err-item.ensures c.loop.invariant.after)

pub returns-then-not-is_above-clause-after : goal.returns-then-not-is_above-clause-after
returns-then-not-is_above-clause-after c =
    entries_stop c.args.count c.loop.counter (option_copied c.loop.low) c.loop.rest.now _ (binding_of c.in_ok-item.item) c.in_ok-item.after.now
    c.loop-test.true c.in_ok-item.ensures (sym (above_told _ _ _ c.is_above.ensures) ∙ c.if-not-is_above.true) c.loop.invariant.after

pub loop-preserved : goal.loop-preserved
loop-preserved c = record {
  after = entries_go c.args.count c.loop.counter (option_copied c.loop.low) c.loop.rest.now _ (binding_of c.in_ok-item.item) c.in_ok-item.after.now
      c.loop-test.true c.in_ok-item.ensures (sym (above_told _ _ _ c.is_above.ensures) ∙ c.if-not-is_above.false) c.loop.invariant.after;
  last = entries_last c.args.count c.loop.counter (option_copied c.loop.low) c.loop.rest.now c.args.bytes.now (binding_of c.in_ok-item.item) c.in_ok-item.after.now
      c.loop-test.true c.in_ok-item.ensures c.loop.invariant.last;
}

pub returns-in-Some-clause-after : goal.returns-in-Some-clause-after
returns-in-Some-clause-after c = entries_end c.args.count c.loop.counter (option_copied c.loop.low) c.loop.rest.now _ c.loop-test.false c.loop.invariant.after

pub returns-in-Some-clause-greatest : goal.returns-in-Some-clause-greatest
returns-in-Some-clause-greatest c =
    let after = entries_end c.args.count c.loop.counter (option_copied c.loop.low) c.loop.rest.now _ c.loop-test.false c.loop.invariant.after in
    subst (λ (key : List ℕ). HoldsEntries c.args.count c.args.bytes.now key) (ap (λ (low : Option (Bor (List ℕ))). key_or_none (option_copied low)) c.in-Some.is)
    (entries_held c.args.count c.loop.counter (option_copied c.loop.low) c.loop.rest.now c.args.bytes.now (λ i. omega (arith, c.type_inv.bytes i)) c.loop-test.false c.loop.invariant.last after)

pub returns-in-None-clause-after : goal.returns-in-None-clause-after
returns-in-None-clause-after c = entries_end c.args.count c.loop.counter (option_copied c.loop.low) c.loop.rest.now _ c.loop-test.false c.loop.invariant.after

pub returns-in-None-clause-greatest : goal.returns-in-None-clause-greatest
returns-in-None-clause-greatest c =
    let after = entries_end c.args.count c.loop.counter (option_copied c.loop.low) c.loop.rest.now _ c.loop-test.false c.loop.invariant.after in
    subst (λ (key : List ℕ). HoldsEntries c.args.count c.args.bytes.now key) (ap (λ (low : Option (Bor (List ℕ))). key_or_none (option_copied low)) c.in-None.is)
    (entries_held c.args.count c.loop.counter (option_copied c.loop.low) c.loop.rest.now c.args.bytes.now (λ i. omega (arith, c.type_inv.bytes i)) c.loop-test.false c.loop.invariant.last after)
