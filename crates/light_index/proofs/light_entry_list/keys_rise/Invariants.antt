use Rattle.std.specs.List.{AllAdjacentBelow}
use Rattle.tree_node.specs.Order.{IsBelow}
use Rattle.light_index.proofs.light_entry_list.keys_rise.Given as goal

abbrev pub invariant-loop-i : goal.invariant-loop-i
invariant-loop-i l = AllAdjacentBelow (λ first second. IsBelow first.key.now second.key.now) l.entries l.i
