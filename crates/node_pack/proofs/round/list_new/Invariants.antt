use Rattle.std.proofs.Common.{◌≡◌, take}
use Rattle.node_pack.specs.internal.Stepping.{new_places_of}
use Rattle.node_pack.proofs.round.list_new.Given as goal

-- the places of the nodes so far
abbrev pub invariant-loop-step : goal.invariant-loop-step
invariant-loop-step l = l.places.items ≡ new_places_of l.size l.known l.brought (take l.step-index l.steps)
