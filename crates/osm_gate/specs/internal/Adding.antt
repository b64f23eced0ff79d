-- What the code has added to its output.
use Rattle.std.specs.Prelude.{◌≡◌, ℕ, Bool, List, ◌++◌}
use Rattle.http_messages.specs.ResponseTexts.{Response, response_text}
use Rattle.osm_gate.specs.Responses.{failed_response, fault_text, refusal, too_much_response}
use Rattle.osm_gate.specs.declared.mirror_fault.MirrorFault.{MirrorFault}
use Rattle.osm_gate.specs.declared.mirror_fault.MirrorFault.TheVariants.{Device, Memory, Query, Work}

-- a response was added of which this is so
abbrev pub AddsResponse : (Response → Type 0) → List ℕ → List ℕ → Type 0
AddsResponse P old new = (r : Response) × P r × (new ≡ old ++ response_text r)

-- the response was added that says why a query has no answer; out of memory there is none
abbrev pub AddsFault : Bool → MirrorFault → List ℕ → List ℕ → Type 0
AddsFault closes (Query fault) old new = new ≡ old ++ response_text (refusal closes 400 (fault_text fault))
AddsFault closes Work old new = new ≡ old ++ response_text (too_much_response closes)
AddsFault closes Memory old new = ⊥
AddsFault closes Device old new = new ≡ old ++ response_text (failed_response closes)
