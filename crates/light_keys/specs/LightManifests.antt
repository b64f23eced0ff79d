-- The manifest of trees whose entries state digests of lines: as the one with a sequence, with the number 3.
-- Source: this project.
use Rattle.std.specs.Int.{to_be_bytes, w64}
use Rattle.std.specs.Prelude.{ℕ, List, ◌∷◌, ◌++◌}
use Rattle.tree_node.specs.declared.tree.Tree.{Tree}
use Rattle.osm_keys.specs.Manifests.{all_tops, magic, top_among}
use Rattle.light_keys.specs.declared.manifest.LightManifest.{LightManifest}

-- what comes before the digests: the number 3, and the sequence in eight bytes
unfoldable pub third_bytes : ℕ → List ℕ
third_bytes sequence = 3 ∷ to_be_bytes w64 sequence

-- `OSMM`, what comes before the digests, and the digests of the tops of trees 1 to 4: 141 bytes
unfoldable pub light_manifest : ℕ → (Tree → List ℕ) → List ℕ
light_manifest sequence tops = magic ++ (third_bytes sequence ++ all_tops tops)

-- the bytes of a manifest
abbrev pub light_manifest_bytes : LightManifest → List ℕ
light_manifest_bytes m = light_manifest m.sequence (top_among m.tops)
