-- Nodes in maps by digest, each under its own.
-- Source: this project.
use Rattle.std.specs.Prelude.{◌≡◌, ℕ, List, Bool, Option, Some}
use Rattle.std.specs.Option.{option_map}
use Rattle.std.specs.Str.{bytes_eq}
use Rattle.std.specs.Global.{Vec}
use Rattle.std.specs.HashMap.{HashMap, get}
use Rattle.tree_node.specs.Digests.{digest}
use Rattle.tree_node.specs.declared.digest.Digest.{Digest}
use Rattle.tree_node.specs.declared.recorded_node.RecordedNode.{RecordedNode}

-- whether two digests have the same bytes
abbrev pub digest_eq : Digest → Digest → Bool
digest_eq a b = bytes_eq a.0 b.0

-- the digest of bytes, as a key
abbrev pub key_of : List ℕ → Digest
key_of x = record { 0 = digest x }

-- the owned node under a digest
abbrev pub owned_at : {S : Type 0} → HashMap Digest (Vec ℕ) S → Digest → Option (List ℕ)
owned_at nodes key = option_map (λ v. v.items) (get digest_eq nodes key)

-- the lent node under a digest
abbrev pub lent_at : {S : Type 0} → HashMap Digest RecordedNode S → Digest → Option (List ℕ)
lent_at nodes key = option_map (λ given. given.bytes.now) (get digest_eq nodes key)

-- the node stands under its own digest, where `node_at` gives the nodes of a map
abbrev pub StandsIn : (Digest → Option (List ℕ)) → List ℕ → Type 0
StandsIn node_at x = node_at (key_of x) ≡ Some x
