-- Searches in rising lists of references.
use Rattle.std.specs.Prelude.{◌≡◌, ◌<◌, ◌≤◌, ℕ, Bool, true, false, List, length, slice_index_or}
use Rattle.std.specs.List.{Contains}
use Rattle.std.specs.declared.cmp.Ordering.TheVariants.{Less}
use Rattle.osm_model.specs.Elements.{ref_cmp}
use Rattle.osm_model.specs.declared.reference.Ref.{Ref}

-- those before this place are below the reference
pub record AreBefore (refs : List Ref) (r : Ref) (low : ℕ) : Type 0 where
  pub below : (k : ℕ) (d : Ref) → k < low → ref_cmp (slice_index_or refs k d) r ≡ Less

-- those from this place on are above the reference
pub record AreAfter (refs : List Ref) (r : Ref) (high : ℕ) : Type 0 where
  pub above : (k : ℕ) (d : Ref) → high ≤ k → k < length refs → ref_cmp r (slice_index_or refs k d) ≡ Less

-- the reference is between these places, if it is there
pub record IsAround (refs : List Ref) (r : Ref) (low high : ℕ) : Type 0 where
  pub ordered : low ≤ high
  pub within : high ≤ length refs
  pub before : AreBefore refs r low
  pub after : AreAfter refs r high

-- the reference is at this place
pub record IsAt (refs : List Ref) (r : Ref) (at : ℕ) : Type 0 where
  pub within : at < length refs
  pub named : (d : Ref) → slice_index_or refs at d ≡ r

-- whether it is there, and if so, where
pub record IsSought (refs : List Ref) (r : Ref) (at : ℕ) (is : Bool) : Type 0 where
  pub within : at ≤ length refs
  pub there : is ≡ true → IsAt refs r at
  pub absent : is ≡ false → Contains refs r → ⊥
