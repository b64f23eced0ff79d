-- The pending children of a level, one after the other.
use Rattle.std.proofs.Common.{◌≡◌, ℕ, ◌+◌, ◌<◌, List, ◌∷◌, drop, get_or, length, Option, ap}
use Rattle.std.proofs.lemmas.List.{drop_more}
use Rattle.tree_node.specs.Nodes.{AreRisingFrom, Inner, Link, greatests_of}
use Rattle.tree_node.proofs.shared.OutcomeLaws.{uses}
use Rattle.tree_walk.specs.internal.Pendings.{FetchedNode, spot_of, spots_of}
use Rattle.tree_walk.specs.Reasons.{StartAbove}
use Rattle.tree_walk.specs.declared.pending.Pending.{Pending}
use Rattle.tree_walk.proofs.SpotOrder.{rises_above}

-- one more is left to fetch
pub rest_is : (nodes : List Pending) (i : ℕ) (default : Pending) → i < length nodes → spots_of (drop i nodes) ≡ spot_of (get_or nodes i default) ∷ spots_of (drop (i + 1) nodes)
rest_is nodes i default lt = ap spots_of (drop_more nodes i default lt)

-- the keys of an inner node that was fetched, and agrees with its parent, rise from its left bound
pub fetched_rises : (tree level from to : ℕ) (links : List Link) (held old new : List ℕ → Type 0) (left : Option (List ℕ)) → FetchedNode (Inner tree level links) (uses held old new) from to → StartAbove left (greatests_of links)
    → AreRisingFrom left (greatests_of links)
fetched_rises tree level from to links held old new left is starts = rises_above left (greatests_of links) starts is.spells.0.6
