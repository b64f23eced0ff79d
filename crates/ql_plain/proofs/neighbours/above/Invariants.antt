use Rattle.std.proofs.Common.{[], take}
use Rattle.ref_sets.specs.Adding.{Adds, From}
use Rattle.ql_plain.proofs.Neighbouring.{IsParentOf}
use Rattle.ql_plain.proofs.neighbours.above.Given as goal

abbrev pub invariant-loop-link : goal.invariant-loop-link
invariant-loop-link l = Adds [] l.refs.items (From (take l.link-index l.link-items) (IsParentOf l.from l.kind))
