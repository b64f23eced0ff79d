use Rattle.std.proofs.Common.{ℕ, take}
use Rattle.std.specs.List.{AllByRecursion}
use Rattle.node_pack.specs.declared.place.Place.{Place}
use Rattle.node_pack.specs.internal.Stepping.{IsBroughtAt}
use Rattle.node_pack.proofs.round.mark.Given as goal

-- what was brought stays so, and the records so far were
abbrev pub invariant-loop-place : goal.invariant-loop-place
invariant-loop-place l = record {
  grows : (at : ℕ) → IsBroughtAt l.fn.brought at → IsBroughtAt l.brought at;
  marked : AllByRecursion (λ (place : Place). IsBroughtAt l.brought place.at) (take l.place-index l.places);
}
