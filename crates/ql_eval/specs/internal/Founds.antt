-- References in the order of their finding.
-- Source: this project.
use Rattle.std.specs.Prelude.{◌≡◌, ℕ, ◌<◌, true, List, length, slice_index_or, ◌↔◌}
use Rattle.std.specs.BTreeSet.{contains}
use Rattle.std.specs.List.{Contains}
use Rattle.osm_model.specs.Elements.{ref_cmp}
use Rattle.osm_model.specs.declared.reference.Ref.{Ref}
use Rattle.ql_eval.specs.declared.found.Found.{Found}
use Rattle.ref_sets.specs.Adding.{Adds}

-- what is seen is what is listed
abbrev pub IsConsistent : Found → Type 0
IsConsistent found = (r : Ref) → (contains ref_cmp found.seen r ≡ true) ↔ Contains found.refs.items r

-- those before stay in their places
abbrev pub Goes : List Ref → List Ref → Type 0
Goes earlier later = (k : ℕ) (d : Ref) → k < length earlier → (k < length later) × (slice_index_or later k d ≡ slice_index_or earlier k d)

-- this reference was added, if it was new
pub record AddsName (name : Ref) (earlier later : List Ref) : Type 0 where
  pub goes : Goes earlier later
  pub adds : Adds earlier later (λ r. name ≡ r)
