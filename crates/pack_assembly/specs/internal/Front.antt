-- The front of a pack.
use Rattle.std.specs.Int.{to_be_bytes, w32}
use Rattle.std.specs.Prelude.{◌+◌, ◌++◌, ℕ, List, length}
use Rattle.tree_node.specs.declared.digest.Digest.{Digest}
use Rattle.node_pack.specs.Headers.{header_bytes}
use Rattle.node_pack.specs.declared.header.Header.{Header}

-- the header of a pack of this root and size, whose manifest's record has this length
abbrev pub header_with : Digest → ℕ → ℕ → Header
header_with root size len = record { root = root; size = size; manifest = record { at = 60; len = len } }

-- the header, and the manifest after its length
abbrev pub front_bytes : Digest → ℕ → List ℕ → List ℕ
front_bytes root size manifest =
    header_bytes (header_with root size (4 + (length manifest + 48))) ++ (to_be_bytes w32 (length manifest) ++ manifest)
