-- Parts of lists: words of the reader's own clauses.
-- Source: this project.
use Rattle.std.specs.Prelude.{◌≡◌, ℕ, ◌+◌, ◌≤◌, ◌⊎◌, List, [], ◌++◌, length}
use Rattle.osm_model.specs.declared.limits.TheConstants.{LIST_LIMIT}
use Rattle.opl_codec.specs.Fields.{Each}
use Rattle.opl_codec.specs.declared.value_fault.ValueFault.{ValueFault}
use Rattle.opl_codec.specs.declared.value_fault.ValueFault.TheVariants as faults

-- how many bytes further the fault is
abbrev pub place_in : ValueFault → ℕ
place_in faults.Form = 0
place_in (faults.Escape at) = at
place_in faults.NodeLocation = 0
place_in faults.Limit = 0
place_in faults.Memory = 0

-- each part spells a value; the list has these, or where there are too many the first of them, one
-- more than a list may have
pub record AreFirst {A : Type 0} (spells : List ℕ → A → Type 0) (parts : List (List ℕ)) (list : List A) : Type 0 where
  pub others : List A
  pub each : Each spells parts (list ++ others)
  pub first : (others ≡ []) ⊎ (length list ≡ LIST_LIMIT + 1)
  pub few : length list ≤ LIST_LIMIT + 1
