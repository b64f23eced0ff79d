use Rattle.std.proofs.Common.{ℕ, List, Option, drop, take}
use Rattle.node_pack.specs.Known.{AreTrue, IsBetween, IsKnown, IsTable}
use Rattle.node_pack.specs.Packs.{digests_of}
use Rattle.node_pack.specs.declared.place.Place.{Place}
use Rattle.node_pack.proofs.learn.learn_places.Given as goal

-- what was known is known; and by the table of these children, those so far are known, and the rest is of the others
abbrev pub invariant-loop-child : goal.invariant-loop-child
invariant-loop-child l = record {
  keeps : (key : List ℕ) → IsKnown l.fn.places key → IsKnown l.places key;
  between : (place_of : List ℕ → Option Place) → AreTrue place_of l.fn.places → IsTable place_of l.limit (digests_of l.children) l.table
      → IsBetween place_of l.limit l.places (digests_of (take l.child-index l.children)) (digests_of (drop l.child-index l.children)) l.rest;
}
