use Rattle.std.proofs.Common.{◌≡◌, ◌+◌, ◌≤◌, length, take}
use Rattle.ql_plain.specs.declared.step.Step.{Step}
use Rattle.osm_model.specs.declared.reference.Ref.{Ref}
use Rattle.ref_sets.specs.Adding.{Adds, From}
use Rattle.ql_plain.specs.internal.Founds.{Goes, IsTold, missing}
use Rattle.ql_plain.proofs.found.Found.follow.Given as goal

abbrev pub invariant-loop-step : goal.invariant-loop-step
invariant-loop-step l = record {
  told : IsTold l.self;
  goes : Goes l.fn.self.refs.items l.self.refs.items;
  adds : Adds l.fn.self.refs.items l.self.refs.items (From (take l.step-index l.onward) (λ (step : Step) (r : Ref). step.to ≡ r));
  fewer : missing l.steps l.self.refs.items + length l.self.refs.items ≤ missing l.steps l.fn.self.refs.items + length l.fn.self.refs.items;
}
