use Rattle.std.proofs.Common.{take}
use Rattle.ref_sets.specs.Adding.{Adds, From}
use Rattle.ql_eval.specs.internal.Listed.{IsNode}
use Rattle.ql_eval.proofs.items.add_nodes.Given as goal

abbrev pub invariant-loop-id : goal.invariant-loop-id
invariant-loop-id l = Adds l.fn.refs.items l.refs.items (From (take l.id-index l.nodes) IsNode)
