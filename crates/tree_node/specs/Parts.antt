-- Nodes beside their digests, as a proof lists them.
-- Source: this project.
use Rattle.std.specs.Prelude.{◌≡◌, ℕ, List}
use Rattle.std.specs.List.{AllPairs, Any}
use Rattle.tree_node.specs.Digests.{digest}
use Rattle.tree_node.specs.Order.{IsBelow}
use Rattle.tree_node.specs.declared.part.Part.{Part}

-- the node that a part holds
abbrev pub node_of : Part → List ℕ
node_of part = part.bytes.now

-- the digests of the parts strictly rise
abbrev pub HaveRisingDigests : List Part → Type 0
HaveRisingDigests parts = AllPairs (λ p q. IsBelow (digest (node_of p)) (digest (node_of q))) parts

-- one of the parts holds this node
abbrev pub HaveNode : List Part → List ℕ → Type 0
HaveNode parts x = Any (λ p. node_of p ≡ x) parts
