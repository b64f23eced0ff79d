-- One node that was fetched.
use Rattle.std.proofs.Common.{ℕ, List, [], ◌∷◌, Option, ap, arith}
use Rattle.tree_node.specs.Nodes.{Link, Node}
use Rattle.tree_node.proofs.shared.OutcomeLaws.{uses}
use Rattle.tree_walk.specs.internal.Pendings.{FetchedFew, FetchedNode, IsStated}
use Rattle.tree_walk.specs.Reasons.{Agrees}
use Rattle.tree_walk.proofs.FetchLemmas.{fetched_one}

-- one node is at most one
pub few_from_node : (node : Node) (held old new : List ℕ → Type 0) (from to : ℕ) → FetchedNode node (uses held old new) from to → FetchedFew (uses held old new) from to
few_from_node node held old new from to is = record {
  nodes = is.bytes ∷ [];
  fetched = rw is.counted (fetched_one held old new from is.bytes is.is_held is.grown);
  few = omega arith;
}

-- an honest node is as its parent states
pub agrees_stated : (tree level : ℕ) (spot : Option (List ℕ) × Link) (node : Node) → IsStated tree level spot node → Agrees spot node
agrees_stated tree level spot node is = (is.above, (ap (λ (l : Link). l.greatest) is.link, ap (λ (l : Link). l.number) is.link))
