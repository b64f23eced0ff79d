-- What the types of the entries of a leaf and of the children of an inner node keep of the items that are still to come,
-- from the reading of their node.
-- Source: this project.
use Rattle.std.specs.Prelude.{◌≡◌, ℕ, List, [], ◌∷◌, length, sum_by, ⊤}
use Rattle.tree_node.specs.Nodes.{Link, keys_of, greatests_of}
use Rattle.tree_node.specs.Fronts.{entries_at_front, links_at_front}
use Rattle.tree_node.specs.Trees.{last_key}

-- the last of the keys, where there is one
abbrev pub IsLastOf : List (List ℕ) → List ℕ → Type 0
IsLastOf [] last = ⊤
IsLastOf (key ∷ keys) last = last_key (key ∷ keys) ≡ last

-- so many entries stand at the front of the bytes, and the last has this key
pub record HoldsEntries (count : ℕ) (bytes greatest : List ℕ) : Type 0 where
  pub whole : length (entries_at_front count bytes) ≡ count
  pub last : IsLastOf (keys_of (entries_at_front count bytes)) greatest

-- so many links stand at the front of the bytes, the last has this key, and so many entries are below them
pub record HoldsLinks (count : ℕ) (bytes greatest : List ℕ) (number : ℕ) : Type 0 where
  pub whole : length (links_at_front count bytes) ≡ count
  pub last : IsLastOf (greatests_of (links_at_front count bytes)) greatest
  pub below : sum_by (λ (link : Link). link.number) (links_at_front count bytes) ≡ number
