use Rattle.std.proofs.Common.{◌<◌, ℕ, length}
use Rattle.std.proofs.lemmas.List.Elements.{All-drop}
use Rattle.std.specs.Global.{Vec}
use Rattle.osm_gate.proofs.chunks.Chunks.take_first.Goals as goal

pub invariant_of-self : goal.invariant_of-self
invariant_of-self c =
    rw c.pop_front.ensures.rest (All-drop (λ (chunk : Vec ℕ). 0 < length chunk.items) 1 c.self.inside.full.items c.self.invariant)
