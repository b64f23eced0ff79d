use Rattle.std.proofs.Common.{[], take}
use Rattle.ref_sets.specs.Adding.{Adds, From}
use Rattle.ql_plain.specs.internal.Steps.{IsOriented}
use Rattle.ql_plain.proofs.step.steps.Given as goal

abbrev pub invariant-loop-link : goal.invariant-loop-link
invariant-loop-link l = Adds [] l.steps.items (From (take l.link-index l.links) (IsOriented l.is_up))
