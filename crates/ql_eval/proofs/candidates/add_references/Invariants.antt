use Rattle.std.proofs.Common.{take}
use Rattle.ref_sets.specs.Adding.{Adds, From}
use Rattle.ql_eval.specs.internal.Candidates.{IsWith}
use Rattle.ql_eval.proofs.candidates.add_references.Given as goal

abbrev pub invariant-loop-id : goal.invariant-loop-id
invariant-loop-id l = Adds l.fn.names.items l.names.items (From (take l.id-index l.ids) (IsWith l.kind))
