use Rattle.std.proofs.Common.{[], take}
use Rattle.ref_sets.specs.Adding.{Adds, From}
use Rattle.ql_meaning.specs.Values.{IsPicked}
use Rattle.ql_plain.proofs.Selecting.{IsOf}
use Rattle.ql_plain.proofs.select.picked.Given as goal

abbrev pub invariant-loop-object : goal.invariant-loop-object
invariant-loop-object l = Adds [] l.refs.items (From (take l.object-index l.objects) (IsOf (IsPicked l.kind)))
