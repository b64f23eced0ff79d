-- A connection that is given up before anything was read.
use Rattle.std.proofs.Common.{◌≡◌, ◌⊎◌, ℕ, List, [], inr, refl}
use Rattle.std.specs.Prelude.{Option}
use Rattle.std.specs.Io.KnownBytes.{Appends}
use Rattle.osm_keys.specs.Publications.{Publication}
use Rattle.osm_gate.specs.Serving.{HasBrokenOff, no_memory}
use Rattle.byte_io.specs.Written.{AppendsFront}
use Rattle.osm_gate.specs.declared.gate_fault.GateFault.{GateFault}
use Rattle.osm_gate.specs.declared.gate_fault.GateFault.TheVariants.{Memory, Writer}
use Rattle.osm_gate.proofs.ServeLemmas.{given_up, read-none}

pub given_up_at_once : (p : Publication) (unread before after : Option (List ℕ)) (fault : GateFault) → (fault ≡ Memory) ⊎ (fault ≡ Writer)
    → (fault ≡ Memory → Appends before after no_memory) → AppendsFront before after no_memory
    → HasBrokenOff p (record { unread = unread; left = unread; before = before; after = after }) fault
given_up_at_once p unread before after fault kinds whole begun =
    given_up p (record { unread = unread; left = unread; before = before; after = after }) fault kinds
    (λ memory. ([], [], read-none unread, refl, whole memory))
    ([], [], read-none unread, inr (refl, begun))
