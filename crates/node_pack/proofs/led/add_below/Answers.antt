use Rattle.std.proofs.Common.{◌≡◌, ℕ, Bool, List, ap, subst, sym}
use Rattle.std.specs.Prelude.{OnOk}
use Rattle.tree_node.specs.Nodes.{Inner, Link, Spells}
use Rattle.node_pack.specs.internal.Stepping.{AddsLed, below_step, is_first}
use Rattle.node_pack.proofs.StepLemmas.{inner_is, leaf_is_not}
use Rattle.node_pack.proofs.led.add_below.Goals as goal

pub returns-in-Ok-Inner-clause-inner : goal.returns-in-Ok-Inner-clause-inner
returns-in-Ok-Inner-clause-inner c = λ tree level links spells.
    let spelled = subst (λ (b : List ℕ). Spells b (Inner tree level links)) (sym c.split_record.ensures.node) spells in
    let parts = inner_is _ _ _ _ _ _ (rw c.in-Ok-Inner.field-0-is at (c.in-Ok-Inner.ensures.only (Inner tree level links) spelled)) in
    let first : is_first c.in-Ok-Inner.level ≡ is_first level = ap is_first parts.0 in
    subst (λ (ls : List Link). OnOk c.add_children.result (AddsLed (below_step c.args.step.now) (is_first level) ls c.args.steps.now.items c.add_children.new.steps.items)) parts.1
    (subst (λ (b : Bool). OnOk c.add_children.result (AddsLed (below_step c.args.step.now) b c.in-Ok-Inner.children c.args.steps.now.items c.add_children.new.steps.items)) first c.add_children.ensures)

pub returns-in-Ok-Leaf-clause-inner : goal.returns-in-Ok-Leaf-clause-inner
returns-in-Ok-Leaf-clause-inner c = λ tree level links spells.
    let spelled = subst (λ (b : List ℕ). Spells b (Inner tree level links)) (sym c.split_record.ensures.node) spells in
    absurd (leaf_is_not _ _ _ _ _ (rw c.in-Ok-Leaf.field-0-is at (c.in-Ok-Leaf.ensures.only (Inner tree level links) spelled)))

pub returns-in-Err-clause-inner : goal.returns-in-Err-clause-inner
returns-in-Err-clause-inner c = λ tree level links spells.
    absurd (c.in-Err.ensures.only (Inner tree level links) (subst (λ (b : List ℕ). Spells b (Inner tree level links)) (sym c.split_record.ensures.node) spells))
