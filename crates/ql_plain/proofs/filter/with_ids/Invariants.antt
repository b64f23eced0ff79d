use Rattle.std.proofs.Common.{◌≡◌, [], take}
use Rattle.ref_sets.specs.Adding.{Adds, From}
use Rattle.osm_model.specs.declared.reference.Ref.{Ref}
use Rattle.ql_plain.proofs.filter.with_ids.Given as goal

abbrev pub invariant-loop-id : goal.invariant-loop-id
invariant-loop-id l = Adds [] l.refs.items (From (take l.id-index l.ids) (λ id (r : Ref). r.id ≡ id))
