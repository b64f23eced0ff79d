-- Proofs: bytes that list nodes.
-- Source: this project's proofs, docs/FORMATS.md.
use Rattle.std.specs.Int.{to_be_bytes, w32}
use Rattle.std.specs.List.{AllByRecursion, AllPairs, flat_map}
use Rattle.std.specs.Prelude.{◌≡◌, ℕ, ◌<◌, ◌^◌, List, [], ◌∷◌, ◌++◌, length, map}
use Rattle.tree_node.specs.Digests.{digest}
use Rattle.tree_node.specs.Order.{IsBelow}
use Rattle.tree_node.specs.Parts.{node_of}
use Rattle.tree_node.specs.declared.part.Part.{Part}

-- `OSMP`, and the number of this form of proofs
abbrev pub front : List ℕ
front = 79 ∷ 83 ∷ 77 ∷ 80 ∷ 1 ∷ []

-- a node after its length in four bytes, with the greatest first
abbrev pub with_length : List ℕ → List ℕ
with_length node = to_be_bytes w32 (length node) ++ node

-- the proof that lists these nodes: the front, their number in four bytes, and each of them after its length
unfoldable pub listing : List (List ℕ) → List ℕ
listing nodes = front ++ (to_be_bytes w32 (length nodes) ++ flat_map with_length nodes)

-- the number of the nodes and each of their lengths fit four bytes
pub record FitsProof (nodes : List (List ℕ)) : Type 0 where
  pub few : length nodes < 2 ^ 32
  pub short : AllByRecursion (λ (node : List ℕ). length node < 2 ^ 32) nodes

-- the bytes have the form of a proof, and these are its nodes
pub record Lists (bytes : List ℕ) (nodes : List (List ℕ)) : Type 0 where
  pub fits : FitsProof nodes
  pub spelled : bytes ≡ listing nodes

-- the bytes have the form of a proof
abbrev pub IsProof : List ℕ → Type 0
IsProof bytes = (nodes : List (List ℕ)) × Lists bytes nodes

-- the digests of the nodes strictly rise
abbrev pub AreRising : List (List ℕ) → Type 0
AreRising nodes = AllPairs (λ (a b : List ℕ). IsBelow (digest a) (digest b)) nodes

-- the nodes of these parts, in order
abbrev pub nodes_of : List Part → List (List ℕ)
nodes_of parts = map node_of parts
