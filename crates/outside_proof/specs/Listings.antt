-- Proofs of nodes of which nothing is known.
-- Source: this project's proofs, docs/FORMATS.md.
use Rattle.std.specs.Prelude.{ℕ, List}
use Rattle.osm_prove.specs.Proofs.{AreRising, Lists}

-- the bytes have the form of a proof, and list nodes by rising digest
abbrev pub ListsRising : List ℕ → Type 0
ListsRising proof = (nodes : List (List ℕ)) × Lists proof nodes × AreRising nodes
