-- What the pack of a publication is, and when its nodes are too long for one.
-- Source: this project's packs, docs/FORMATS.md.
use Rattle.std.specs.Prelude.{◌≡◌, ◌↔◌, ℕ, List, Option}
use Rattle.std.specs.Io.KnownBytes.{Appends}
use Rattle.std.specs.List.{Contains}
use Rattle.byte_io.specs.Written.{AppendsFront}
use Rattle.osm_keys.specs.Publications.{IsNodeIn, Publication, root_of}
use Rattle.node_pack.specs.Packs.{IsPack, Kept}
use Rattle.node_pack.specs.Reached.{AreTooLong}

-- one of the nodes has these bytes
abbrev pub HasBytes : List Kept → List ℕ → Type 0
HasBytes nodes bytes = (kept : Kept) × Contains nodes kept × (kept.bytes ≡ bytes)

-- the file is a pack of the publication's root, with just the nodes of the publication
pub record IsPackOf (p : Publication) (file : List ℕ) : Type 0 where
  pub nodes : List Kept
  pub is_pack : IsPack file (root_of p) nodes
  pub same : (bytes : List ℕ) → HasBytes nodes bytes ↔ IsNodeIn p bytes

-- the nodes of the publication are too long for a pack
abbrev pub IsTooLong : Publication → Type 0
IsTooLong p = AreTooLong (IsNodeIn p) (root_of p)

-- what was written is a pack of the publication
abbrev pub IsPacked : Publication → Option (List ℕ) → Option (List ℕ) → Type 0
IsPacked p old new = (bytes : List ℕ) × IsPackOf p bytes × Appends old new bytes

-- what was written is a beginning of one
abbrev pub HasBegun : Publication → Option (List ℕ) → Option (List ℕ) → Type 0
HasBegun p old new = (bytes : List ℕ) × IsPackOf p bytes × AppendsFront old new bytes
