-- The header of a pack, and why a file has none.
-- Source: this project's packs, docs/FORMATS.md.
use Rattle.std.specs.Int.{from_be_bytes, to_be_bytes, w32, w64}
use Rattle.std.specs.Prelude.{ℕ, List, ◌++◌, ◌==◌, Err, Ok, Result, drop, if◌then◌else◌, length, nat_lt, take}
use Rattle.node_pack.specs.Places.{first_place, place_bytes}
use Rattle.node_pack.specs.declared.fault.PackFault.{PackFault}
use Rattle.node_pack.specs.declared.fault.PackFault.TheVariants.{BytesAfter, Cut, NotAPack, OtherVersion}
use Rattle.node_pack.specs.declared.header.Header.{Header}
use Rattle.node_pack.specs.declared.header.TheConstants.{HEADER_LEN, MAGIC, VERSION}

-- A header of 60 bytes: `OSMK`, the version and two reserved bytes as one number, the root, the length of the file in eight bytes,
-- and the place of the manifest's record.
abbrev pub header_with : ℕ → Header → List ℕ
header_with version header =
    to_be_bytes w32 MAGIC ++ (to_be_bytes w32 version ++ (header.root.0 ++ (to_be_bytes w64 header.size ++ place_bytes header.manifest)))

-- that of a pack: the version is 1 in two bytes
abbrev pub header_bytes : Header → List ℕ
header_bytes header = header_with VERSION header

-- what the fields after the version say
abbrev pub fields_at : List ℕ → Header
fields_at rest = record {
  root = record { 0 = take 32 rest };
  size = from_be_bytes w64 (take 8 (drop 32 rest));
  manifest = first_place (drop 8 (drop 32 rest));
}

-- the header, where the file has as many bytes as it states
abbrev pub sized : Header → ℕ → Result Header PackFault
sized header size =
    if nat_lt size header.size then Err Cut
    else (if nat_lt header.size size then Err BytesAfter else Ok header)

-- The header of a file of this many bytes that begins with these, or the first thing that is at fault.
unfoldable pub header_at : List ℕ → ℕ → Result Header PackFault
header_at front size =
    if nat_lt (length front) 4 then Err NotAPack
    else (if from_be_bytes w32 (take 4 front) == MAGIC then
    (if nat_lt (length front) 8 then Err Cut
    else (if from_be_bytes w32 (take 4 (drop 4 front)) == VERSION then
    (if nat_lt (length front) HEADER_LEN then Err Cut else sized (fields_at (drop 4 (drop 4 front))) size)
    else Err OtherVersion))
    else Err NotAPack)
