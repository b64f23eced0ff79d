use Rattle.std.proofs.Common.{◌≡◌, ◌≤◌, length, take}
use Rattle.std.specs.List.{Contains}
use Rattle.osm_model.specs.declared.reference.Ref.{Ref}
use Rattle.ref_sets.specs.Sets.{IsSetOf}
use Rattle.ref_sets.specs.internal.Wanted.{IsWanted}
use Rattle.ref_sets.proofs.rising_lists.filter_by.Given as goal

abbrev pub invariant-loop-name : goal.invariant-loop-name
invariant-loop-name l = record {
  kept : IsSetOf l.kept.items (λ r. (x : Ref) × Contains (take l.name-index l.refs) x × (x ≡ r) × IsWanted l.wanted (Contains l.others x));
  within : l.at ≤ length l.others;
}
