use Rattle.std.proofs.Common.{◌≡◌, take}
use Rattle.osm_model.specs.declared.reference.Ref.{Ref}
use Rattle.ref_sets.specs.Adding.{Adds, From}
use Rattle.ql_eval.specs.internal.Affording.{AreApart}
use Rattle.ql_eval.specs.internal.Founds.{Goes, IsConsistent}
use Rattle.ql_eval.proofs.chains.add_all.Given as goal

abbrev pub invariant-loop-name : goal.invariant-loop-name
invariant-loop-name l = record {
  consistent : IsConsistent l.found;
  goes : Goes l.fn.found.refs.items l.found.refs.items;
  added : Adds l.fn.found.refs.items l.found.refs.items (From (take l.name-index l.names) (λ (name r : Ref). name ≡ r));
  apart : AreApart l.fn.found.refs.items → AreApart l.found.refs.items;
}
