-- What the bytes of a connection ask doesn't depend on how they are cut.
use Rattle.std.proofs.Common.{◌≡◌, ℕ, List, ◌++◌}
use Rattle.osm_gate.proofs.ConnectionLemmas.{cut}
use Rattle.osm_gate.specs.Connections.{requests_in, requests_next, joined_requests}

pub pieces : (a b : List ℕ) → requests_in (a ++ b) ≡ joined_requests (requests_in a).complete (requests_next (requests_in a).rest b)
pieces = cut
