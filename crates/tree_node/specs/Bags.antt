-- What a bag holds, and which of its nodes were used.
-- Source: this project.
use Rattle.std.specs.Prelude.{◌≡◌, ℕ, ◌<◌, List, length, Bool, true, false, slice_index_or}
use Rattle.tree_node.specs.Parts.{node_of, HaveNode}
use Rattle.tree_node.specs.declared.part.Part.{Part}
use Rattle.tree_node.specs.declared.bag.Bag.{Bag}

-- one of the parts whose mark is set holds this node
abbrev pub HaveMarkedNode : List Part → List Bool → List ℕ → Type 0
HaveMarkedNode parts marks x = (k : ℕ) × (p : Part) × (k < length parts) × (slice_index_or parts k p ≡ p) × (node_of p ≡ x) × (slice_index_or marks k false ≡ true)

-- the bag holds this node
abbrev pub BagHolds : Bag → List ℕ → Type 0
BagHolds bag = HaveNode bag.parts.items

-- this node of the bag was used
abbrev pub BagUsed : Bag → List ℕ → Type 0
BagUsed bag = HaveMarkedNode bag.parts.items bag.marks.items
