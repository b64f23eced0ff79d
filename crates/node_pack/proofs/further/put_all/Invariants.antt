use Rattle.std.proofs.Common.{ℕ, List, Option, take}
use Rattle.std.specs.List.{AllByRecursion}
use Rattle.node_pack.specs.Known.{IsKnown}
use Rattle.node_pack.specs.declared.place.Place.{Place}
use Rattle.node_pack.specs.Additions.{earlier_place}
use Rattle.node_pack.specs.internal.Laying.{AreEarlier, ArePut, HasPlaces}
use Rattle.node_pack.proofs.further.put_all.Given as goal

-- what was known is known, what is put is the nodes', and the children of the nodes so far are known
abbrev pub invariant-loop-node : goal.invariant-loop-node
invariant-loop-node g l = record {
  keeps : (key : List ℕ) → IsKnown l.initial.places key → IsKnown l.places key;
  put : (place_of : List ℕ → Option Place) → ArePut place_of l.initial.places → AreEarlier place_of (earlier_place l.number l.known) l.initial.places → ArePut place_of l.places;
  known : AllByRecursion (HasPlaces l.places) (take l.node-index l.nodes);
}
