-- The one place where a proof opens the word for SHA-256.
use Rattle.std.specs.Prelude.{◌≡◌, ℕ, List, refl}
use Rattle.sha2.specs.Sha256.{sha256}
use Rattle.tree_node.specs.Digests.{digest}

-- what `sha2` computes is the digest
pub digest_is : (bytes : List ℕ) → sha256 bytes ≡ digest bytes
unfolding digest
digest_is bytes = refl
