use Rattle.std.proofs.Common.{◌≡◌, ◌++◌, map, take}
use Rattle.node_pack.specs.internal.Announcing.{announcements}
use Rattle.node_pack.specs.internal.Stepping.{lead_to_top, leads_of}
use Rattle.node_pack.proofs.led.add_tops.Given as goal

-- the hints so far have their steps
abbrev pub invariant-loop-hint : goal.invariant-loop-hint
invariant-loop-hint l = leads_of l.steps.items ≡ leads_of l.fn.steps.items ++ map lead_to_top (announcements (take l.hint-index l.hints))
