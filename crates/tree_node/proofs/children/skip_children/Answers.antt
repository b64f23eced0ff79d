use Rattle.std.proofs.Common.{ℕ, List, Option, Bor, ap, subst, sym, ◌∙◌, arith}
use Rattle.std.specs.Option.{option_copied}
use Rattle.std.proofs.lemmas.Result.{err_from_is_err_and}
use Rattle.tree_node.specs.Held.{HoldsLinks}
use Rattle.tree_node.specs.NodeRefs.{link_of}
use Rattle.tree_node.proofs.shared.NodeLaws.{above_told}
use Rattle.tree_node.proofs.HeldLemmas.{key_or_none, links_held, links_last, links_sum}
use Rattle.tree_node.proofs.SkipLemmas.{links_fail, links_stop, links_go, links_end}
use Rattle.tree_node.proofs.children.skip_children.Goals as goal

pub returns-in_err-child-clause-after : goal.returns-in_err-child-clause-after
returns-in_err-child-clause-after c =
    let p = err_from_is_err_and c.from_residual.result c.from_residual.ensures.1 in
    rw (p.1, p.2) (links_fail c.args.count c.loop.counter (option_copied c.loop.low) c.loop.rest.now _ c.in_err-child.field-0.0 c.loop-test.true c.in_err-child.ensures.read c.loop.invariant.after)

pub returns-then-not-is_above-clause-after : goal.returns-then-not-is_above-clause-after
returns-then-not-is_above-clause-after c =
    links_stop c.args.count c.loop.counter (option_copied c.loop.low) c.loop.rest.now _ (link_of c.in_ok-child.child) c.in_ok-child.after.now
    c.loop-test.true c.in_ok-child.ensures.read (sym (above_told _ _ _ c.is_above.ensures) ∙ c.if-not-is_above.true) c.loop.invariant.after

pub loop-preserved : goal.loop-preserved
loop-preserved c = record {
  after = links_go c.args.count c.loop.counter (option_copied c.loop.low) c.loop.rest.now _ (link_of c.in_ok-child.child) c.in_ok-child.after.now
      c.loop-test.true c.in_ok-child.ensures.read (sym (above_told _ _ _ c.is_above.ensures) ∙ c.if-not-is_above.false) c.loop.invariant.after;
  last = links_last c.args.count c.loop.counter (option_copied c.loop.low) c.loop.rest.now c.args.bytes.now (link_of c.in_ok-child.child) c.in_ok-child.after.now
      c.loop-test.true c.in_ok-child.ensures.read c.loop.invariant.last;
  below = links_sum c.args.count c.loop.counter (option_copied c.loop.low) c.loop.rest.now c.args.bytes.now c.loop.number (link_of c.in_ok-child.child) c.in_ok-child.after.now
      c.loop-test.true c.in_ok-child.ensures.read c.loop.invariant.below;
  small = omega (arith, c.loop.invariant.small, c.in_ok-child.ensures.number);
}

pub returns-in-Some-clause-after : goal.returns-in-Some-clause-after
returns-in-Some-clause-after c = links_end c.args.count c.loop.counter (option_copied c.loop.low) c.loop.rest.now _ c.loop-test.false c.loop.invariant.after

pub returns-in-Some-clause-held : goal.returns-in-Some-clause-held
returns-in-Some-clause-held c =
    let after = links_end c.args.count c.loop.counter (option_copied c.loop.low) c.loop.rest.now _ c.loop-test.false c.loop.invariant.after in
    subst (λ (key : List ℕ). HoldsLinks c.args.count c.args.bytes.now key c.loop.number) (ap (λ (low : Option (Bor (List ℕ))). key_or_none (option_copied low)) c.in-Some.is)
    (links_held c.args.count c.loop.counter (option_copied c.loop.low) c.loop.rest.now c.args.bytes.now c.loop.number (λ i. omega (arith, c.type_inv.bytes i)) c.loop-test.false c.loop.invariant.last c.loop.invariant.below after)

pub returns-in-None-clause-after : goal.returns-in-None-clause-after
returns-in-None-clause-after c = links_end c.args.count c.loop.counter (option_copied c.loop.low) c.loop.rest.now _ c.loop-test.false c.loop.invariant.after

pub returns-in-None-clause-held : goal.returns-in-None-clause-held
returns-in-None-clause-held c =
    let after = links_end c.args.count c.loop.counter (option_copied c.loop.low) c.loop.rest.now _ c.loop-test.false c.loop.invariant.after in
    subst (λ (key : List ℕ). HoldsLinks c.args.count c.args.bytes.now key c.loop.number) (ap (λ (low : Option (Bor (List ℕ))). key_or_none (option_copied low)) c.in-None.is)
    (links_held c.args.count c.loop.counter (option_copied c.loop.low) c.loop.rest.now c.args.bytes.now c.loop.number (λ i. omega (arith, c.type_inv.bytes i)) c.loop-test.false c.loop.invariant.last c.loop.invariant.below after)
