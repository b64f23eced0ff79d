use Rattle.std.proofs.Common.{[], take}
use Rattle.osm_model.specs.declared.kind.Kind.{Kind}
use Rattle.osm_model.specs.declared.reference.Ref.{Ref}
use Rattle.ref_sets.specs.Adding.{Adds, From}
use Rattle.ql_eval.specs.internal.Candidates.{IsWith}
use Rattle.ql_eval.proofs.candidates.references.Given as goal

abbrev pub invariant-loop-kind : goal.invariant-loop-kind
invariant-loop-kind l = Adds [] l.names.items (From (take l.kind-index l.kinds) (λ (kind : Kind) (r : Ref). From l.ids (IsWith kind) r))
