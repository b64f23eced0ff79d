-- Where a named set lies in a list of them.
-- Source: this project.
use Rattle.std.specs.Prelude.{◌≡◌, ◌<◌, ℕ, List, bytes_eq, false, true, length, slice_index_or}
use Rattle.ref_sets.specs.declared.named_set.NamedSet.{NamedSet}

-- the first set with this name is here
pub record IsPlaceOf (sets : List NamedSet) (name : List ℕ) (at : ℕ) : Type 0 where
  pub within : at < length sets
  pub named : (d : NamedSet) → bytes_eq (slice_index_or sets at d).name.now name ≡ true
  pub first : (k : ℕ) (d : NamedSet) → k < at → bytes_eq (slice_index_or sets k d).name.now name ≡ false
