use Rattle.std.proofs.Common.{ℕ, ◌+◌, ◌-◌, ◌<◌, ◌⊎◌, get_or, length}
use Rattle.std.specs.List.{Contains}
use Rattle.osm_model.specs.declared.reference.Ref.{Ref}
use Rattle.ql_plain.specs.internal.Founds.{IsTold, missing}
use Rattle.ql_plain.specs.internal.Paths.{IsPath, IsStep}
use Rattle.ql_plain.proofs.found.Found.follow_found.Given as goal

abbrev pub invariant-loop-at : goal.invariant-loop-at
invariant-loop-at l = record {
  told : IsTold l.self;
  kept : (r : Ref) → Contains l.fn.self.refs.items r → Contains l.self.refs.items r;
  sound : (r : Ref) → Contains l.self.refs.items r → Contains l.fn.self.refs.items r ⊎ ((s : Ref) × Contains l.fn.self.refs.items s × IsPath l.steps s r);
  done : (k : ℕ) (d : Ref) → k < l.at → k < length l.self.refs.items → (r : Ref) → IsStep l.steps (get_or l.self.refs.items k d) r → Contains l.self.refs.items r;
}

abbrev pub decreases-loop-at : goal.decreases-loop-at
decreases-loop-at l = (missing l.steps l.self.refs.items + length l.self.refs.items) - l.at
