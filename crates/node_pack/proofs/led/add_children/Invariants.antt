use Rattle.std.specs.Option.{option_copied}
use Rattle.std.specs.Prelude.{None}
use Rattle.tree_walk.specs.Spans.{children_placed}
use Rattle.node_pack.specs.internal.Stepping.{below_step}
use Rattle.node_pack.proofs.StepLemmas.{AddsFirst}
use Rattle.node_pack.proofs.led.add_children.Given as goal

-- of the children so far the steps were added
abbrev pub invariant-loop-child : goal.invariant-loop-child
invariant-loop-child l =
    AddsFirst (below_step l.step) l.are_leaves (children_placed None l.fn.children) (children_placed (option_copied l.left) l.child-iterator) l.fn.steps.items l.steps.items
