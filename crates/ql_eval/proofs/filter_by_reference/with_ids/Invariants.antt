use Rattle.std.proofs.Common.{[], take}
use Rattle.ref_sets.specs.Adding.{Adds, From}
use Rattle.ql_eval.specs.internal.Narrowing.{HasId}
use Rattle.ql_eval.proofs.filter_by_reference.with_ids.Given as goal

abbrev pub invariant-loop-id : goal.invariant-loop-id
invariant-loop-id l = Adds [] l.those.items (From (take l.id-index l.ids) HasId)
