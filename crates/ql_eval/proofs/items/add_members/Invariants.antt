use Rattle.std.proofs.Common.{take}
use Rattle.ref_sets.specs.Adding.{Adds, From}
use Rattle.ql_eval.specs.internal.Listed.{IsTarget}
use Rattle.ql_eval.proofs.items.add_members.Given as goal

abbrev pub invariant-loop-member : goal.invariant-loop-member
invariant-loop-member l = Adds l.fn.refs.items l.refs.items (From (take l.member-index l.members) IsTarget)
