use Rattle.std.proofs.Common.{take, []}
use Rattle.ref_sets.specs.Adding.{Adds, From}
use Rattle.ql_plain.specs.internal.Linked.{IsLinkOf}
use Rattle.ql_plain.proofs.links.links.Given as goal

abbrev pub invariant-loop-object : goal.invariant-loop-object
invariant-loop-object l = Adds [] l.links.items (From (take l.object-index l.objects) (IsLinkOf l.set))
