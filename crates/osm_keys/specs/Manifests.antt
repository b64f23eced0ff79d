-- Manifests: the bytes whose digest is the root of a set of objects.
-- Source: this project's manifests, docs/FORMATS.md.
use Rattle.std.specs.Int.{to_be_bytes, w64}
use Rattle.std.specs.Prelude.{◌≡◌, ℕ, ◌-◌, ◌<◌, ◌^◌, List, [], ◌∷◌, ◌++◌, length, slice_index_or, ⊤}
use Rattle.tree_node.specs.NodeRefs.{number_of}
use Rattle.tree_node.specs.declared.digest.Digest.{Digest}
use Rattle.tree_node.specs.declared.tree.Tree.{Tree}
use Rattle.tree_node.specs.declared.tree.Tree.TheVariants.{Objects, Tags, Cells, Backs}
use Rattle.osm_keys.specs.declared.edition.Edition.{Edition}
use Rattle.osm_keys.specs.declared.edition.Edition.TheVariants as editions
use Rattle.osm_keys.specs.declared.manifest.Manifest.{Manifest}

-- `OSMM`
abbrev pub magic : List ℕ
magic = 79 ∷ 83 ∷ 77 ∷ 77 ∷ []

-- each top has the 32 bytes of a digest
abbrev pub HaveWidth : (Tree → List ℕ) → Type 0
HaveWidth tops = (tree : Tree) → length (tops tree) ≡ 32

-- the four digests, in the order of the trees' numbers
abbrev pub all_tops : (Tree → List ℕ) → List ℕ
all_tops tops = tops Objects ++ (tops Tags ++ (tops Cells ++ tops Backs))

-- what comes before the digests: the number of the edition, and in the second its sequence
abbrev pub edition_bytes : Edition → List ℕ
edition_bytes editions.One = 1 ∷ []
edition_bytes (editions.Two sequence) = 2 ∷ to_be_bytes w64 sequence

-- the edition's sequence, where it has one, fits its eight bytes
abbrev pub HasSequence : Edition → Type 0
HasSequence editions.One = ⊤
HasSequence (editions.Two sequence) = sequence < 2 ^ 64

-- the manifest of an edition with these four tops: 133 bytes in the first edition, 141 in the second
unfoldable pub manifest : Edition → (Tree → List ℕ) → List ℕ
manifest edition tops = magic ++ (edition_bytes edition ++ all_tops tops)

-- the digest of the top of a tree among four that are in the order of the trees' numbers
abbrev pub top_among : List Digest → Tree → List ℕ
top_among tops tree = (slice_index_or tops (number_of tree - 1) (record { 0 = [] })).0

-- the bytes of a manifest
abbrev pub manifest_bytes : Manifest → List ℕ
manifest_bytes m = manifest m.edition (top_among m.tops)
