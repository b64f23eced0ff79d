-- When another byte string has the digest of a node.
-- Source: this project.
use Rattle.std.specs.Prelude.{ℕ, List}
use Rattle.tree_node.specs.Nodes.{AreBytes}
use Rattle.tree_node.specs.Outcomes.{Clash}

-- One of these has a second preimage of SHA-256: another byte string has its digest. That the other one consists of bytes is said,
-- since lists of larger numbers with the same digest are found by carrying from one number to the next.
abbrev pub HaveSecondPreimage : (List ℕ → Type 0) → Type 0
HaveSecondPreimage These = Clash These AreBytes
