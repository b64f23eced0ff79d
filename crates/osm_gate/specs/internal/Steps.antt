-- What the code finds at the front of some bytes, and where the rest begins.
use Rattle.std.specs.Prelude.{◌≡◌, ℕ, true, false, List, [], ◌∷◌, ◌++◌, Option, Some, None, drop}
use Rattle.osm_keys.specs.Publications.{Publication}
use Rattle.osm_gate.specs.Connections.{RespondsOn, Rest, closed_rest, ends_with, open_rest}
use Rattle.http_messages.specs.Requests.{Decided, Request, first_request}
use Rattle.osm_gate.specs.declared.requests.Open.{Open as Place}
use Rattle.osm_gate.specs.declared.requests.Step.{Step}
use Rattle.osm_gate.specs.declared.requests.Step.TheVariants.{Ended, Next, Open}
use Rattle.osm_gate.specs.Terms.{Terms}
use Rattle.osm_gate.specs.internal.Kept.{IsOpen}

-- the response to this request was added, over whatever publication is held
abbrev pub Adds : Terms → (Publication → Type 0) → Request → List ℕ → List ℕ → Type 0
Adds terms holds request old new = (p : Publication) → holds p
    → (text : List ℕ) × RespondsOn terms p (request ∷ []) text × (new ≡ old ++ text)

abbrev pub StepIs : Terms → Step → (Publication → Type 0) → List ℕ → List ℕ → List ℕ → Type 0
StepIs terms (Open needed) holds bytes old new =
    (first_request bytes ≡ None) × IsOpen needed bytes × (new ≡ old)
StepIs terms Ended holds bytes old new =
    (d : Decided) × (first_request bytes ≡ Some d) × (ends_with d.request ≡ true)
    × Adds terms holds d.request old new
StepIs terms (Next used) holds bytes old new =
    (d : Decided) × (first_request bytes ≡ Some d) × (ends_with d.request ≡ false)
    × Adds terms holds d.request old new × (d.used ≡ used)

abbrev pub rest_at : List ℕ → Option Place → Rest
rest_at bytes None = closed_rest
rest_at bytes (Some place) = open_rest (drop place.at bytes)
