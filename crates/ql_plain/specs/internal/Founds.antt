-- What a recursion has found so far.
use Rattle.std.specs.Prelude.{◌≡◌, ℕ, ◌+◌, ◌≤◌, ◌<◌, Bool, true, not, List, [], ◌∷◌, suc, if◌then◌else◌, length, slice_index_or, ◌⊎◌, ◌↔◌}
use Rattle.std.specs.BTreeSet.{contains}
use Rattle.std.specs.List.{Contains, list_any}
use Rattle.std.specs.Ordering.{eq_by_cmp}
use Rattle.osm_model.specs.Elements.{ref_cmp}
use Rattle.osm_model.specs.declared.reference.Ref.{Ref}
use Rattle.ql_plain.specs.declared.found.Found.{Found}
use Rattle.ql_plain.specs.declared.step.Step.{Step}
use Rattle.ref_sets.specs.Adding.{Adds}
use Rattle.ql_plain.specs.internal.Paths.{IsPath, IsStep}

-- what is seen is what is listed
abbrev pub IsTold : Found → Type 0
IsTold found = (r : Ref) → (contains ref_cmp found.seen r ≡ true) ↔ Contains found.refs.items r

abbrev pub has : List Ref → Ref → Bool
has refs r = list_any (λ s. eq_by_cmp ref_cmp s r) refs

-- how many pass the test
abbrev pub how_many : {X : Type 0} → (X → Bool) → List X → ℕ
how_many test [] = 0
how_many test (x ∷ xs) = if test x then suc (how_many test xs) else how_many test xs

-- how many steps lead to what is not found
abbrev pub missing : List Step → List Ref → ℕ
missing steps refs = how_many (λ step. not (has refs step.to)) steps

-- those before stay in their places
abbrev pub Goes : List Ref → List Ref → Type 0
Goes earlier later = (k : ℕ) (d : Ref) → k < length earlier → (k < length later) × (slice_index_or later k d ≡ slice_index_or earlier k d)

-- this reference was added, if it was new
pub record AddsName (name : Ref) (earlier later : List Ref) : Type 0 where
  pub goes : Goes earlier later
  pub adds : Adds earlier later (λ r. name ≡ r)
  pub fewer : (steps : List Step) (step : Step) → Contains steps step → step.to ≡ name → missing steps later + length later ≤ missing steps earlier + length earlier

-- what the steps from this reference lead to was added, as far as it was new
pub record Follows (steps : List Step) (name : Ref) (earlier later : List Ref) : Type 0 where
  pub goes : Goes earlier later
  pub adds : Adds earlier later (IsStep steps name)
  pub fewer : missing steps later + length later ≤ missing steps earlier + length earlier

-- what one or more further steps lead to was added, and nothing else
pub record IsClosure (steps : List Step) (earlier later : List Ref) : Type 0 where
  pub kept : (r : Ref) → Contains earlier r → Contains later r
  pub sound : (r : Ref) → Contains later r → Contains earlier r ⊎ ((s : Ref) × Contains earlier s × IsPath steps s r)
  pub closed : (s r : Ref) → Contains later s → IsStep steps s r → Contains later r
