use Rattle.std.proofs.Common.{ℕ, List, Option, take}
use Rattle.std.specs.List.{AllByRecursion}
use Rattle.tree_node.specs.declared.digest.Digest.{Digest}
use Rattle.node_pack.specs.Known.{IsKnown}
use Rattle.node_pack.specs.declared.place.Place.{Place}
use Rattle.node_pack.specs.Additions.{earlier_place}
use Rattle.node_pack.specs.internal.Laying.{AreEarlier, ArePut}
use Rattle.node_pack.proofs.further.put_children.Given as goal

-- what was known is known, what is put is the nodes', and the children so far are known
abbrev pub invariant-loop-child : goal.invariant-loop-child
invariant-loop-child g l = record {
  keeps : (key : List ℕ) → IsKnown l.initial.places key → IsKnown l.places key;
  put : (place_of : List ℕ → Option Place) → ArePut place_of l.initial.places → AreEarlier place_of (earlier_place l.number l.known) l.initial.places → ArePut place_of l.places;
  known : AllByRecursion (λ (child : Digest). IsKnown l.places child.0) (take l.child-index l.children);
}
