-- What a walk came to want, and what it accepted, over more nodes that were used.
use Rattle.std.proofs.Common.{ℕ, List}
use Rattle.tree_node.specs.Nodes.{Node, spelling}
use Rattle.tree_node.proofs.shared.OutcomeLaws.{Nodes}
use Rattle.tree_walk.specs.Reasons.{FromParent, FromTop, IsAccepted, IsWanted, Wanted}

-- what was accepted is
pub accepted_more : (used later : Nodes) (tree : ℕ) (wanted : Wanted) (node : Node) → ((x : List ℕ) → used x → later x) → IsAccepted used tree wanted node → IsAccepted later tree wanted node
accepted_more used later tree wanted node grows is = record { read = (is.read.0, (grows (spelling node) is.read.1.0, is.read.1.1)); kind = is.kind; stated = is.stated }

-- what was wanted is
pub wanted_more : (used later : Nodes) (tree : ℕ) (top : List ℕ) (wanted : Wanted) → ((x : List ℕ) → used x → later x) → IsWanted used tree top wanted → IsWanted later tree top wanted
wanted_more used later tree top wanted grows FromTop = FromTop
wanted_more used later tree top wanted grows (FromParent above parent level left link is accepted at among) =
    FromParent above parent level left link (wanted_more used later tree top above grows is) (accepted_more used later tree above parent grows accepted) at among
