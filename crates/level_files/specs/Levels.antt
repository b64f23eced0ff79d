-- The nodes of levels that were written, and how far they were read again.
-- Source: this project.
use Rattle.std.specs.Prelude.{◌≡◌, ℕ, Bool, true, false, List, [], ◌∷◌, slice_index_or}

-- the nodes of a level, those that are yet to be read, and those whose lengths are yet to be read
pub record LevelNodes : Type 0 where
  pub nodes : List (List ℕ)
  pub unread : List (List ℕ)
  pub unmeasured : List (List ℕ)

-- before the first node, and before the first length
abbrev pub unread_level : List (List ℕ) → LevelNodes
unread_level nodes = record { nodes = nodes; unread = nodes; unmeasured = nodes }

-- the first node was read and is gone, or there was none
abbrev pub IsNext : List (List ℕ) → List (List ℕ) → Bool → List ℕ → Type 0
IsNext old new true read = old ≡ read ∷ new
IsNext old new false read = (old ≡ []) × (new ≡ [])

-- the level with this number; one without nodes where it isn't there
abbrev pub level_in : List LevelNodes → ℕ → LevelNodes
level_in levels level = slice_index_or levels level (unread_level [])
