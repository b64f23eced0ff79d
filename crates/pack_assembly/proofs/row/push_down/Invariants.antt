use Rattle.std.proofs.Common.{◌≡◌, ◌-◌, ◌++◌}
use Rattle.pack_assembly.specs.internal.Order.{down}
use Rattle.pack_assembly.proofs.row.push_down.Given as goal

-- the levels that were added, and those to come
abbrev pub invariant-loop-done : goal.invariant-loop-done
invariant-loop-done l = l.rows.items ++ down l.tree l.low (l.count - l.done) ≡ l.initial.rows.items ++ down l.tree l.low l.count
