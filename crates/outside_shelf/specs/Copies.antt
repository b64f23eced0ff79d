-- Owned copies of nodes.
-- Source: this project.
use Rattle.std.specs.List.{AllPairs, Any}
use Rattle.std.specs.Prelude.{◌≡◌, ℕ, List}
use Rattle.tree_node.specs.Digests.{digest}
use Rattle.tree_node.specs.Order.{IsBelow}
use Rattle.tree_node.specs.declared.new_node.NewNode.{NewNode}

-- the bytes of an owned node
abbrev pub bytes_of : NewNode → List ℕ
bytes_of node = node.bytes.items

-- one of the owned nodes is this one
abbrev pub HaveCopy : List NewNode → List ℕ → Type 0
HaveCopy nodes x = Any (λ node. bytes_of node ≡ x) nodes

-- the digests of the owned nodes strictly rise
abbrev pub HaveRisingKeys : List NewNode → Type 0
HaveRisingKeys nodes = AllPairs (λ p q. IsBelow (digest (bytes_of p)) (digest (bytes_of q))) nodes
