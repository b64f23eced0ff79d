-- What the parts of a snapshot hold together, where lines are nodes.
-- Source: this project.
use Rattle.std.specs.Prelude.{◌≡◌, ◌↔◌, ℕ, List}
use Rattle.light_index.specs.LightPublications.{IsLightNodeIn, IsLightPublicationOf, LightPublication, light_manifest_of, light_root_of, light_top_in}
use Rattle.light_keys.specs.LightManifests.{light_manifest_bytes}
use Rattle.light_keys.specs.declared.manifest.LightManifest.{LightManifest}
use Rattle.osm_keys.specs.Manifests.{top_among}
use Rattle.tree_node.specs.Shelves.{IsClashFree}
use Rattle.tree_node.specs.Stocks.{HasNode}
use Rattle.tree_node.specs.declared.digest.Digest.{Digest}
use Rattle.tree_node.specs.declared.stock.Stock.{Stock}
use Rattle.tree_node.specs.declared.tree.Tree.{Tree}

-- this stock, this manifest with its sequence and this root are those of the publication, and no two different nodes of
-- it have one digest
pub record AreLightHeld (stock : Stock) (found : LightManifest) (key : Digest) (p : LightPublication) : Type 0 where
  pub is : IsLightPublicationOf p.objects found.sequence p
  pub nodes : (bytes : List ℕ) → HasNode stock bytes ↔ IsLightNodeIn p bytes
  pub manifest : light_manifest_bytes found ≡ light_manifest_of p
  pub tops : (tree : Tree) → top_among found.tops tree ≡ light_top_in p tree
  pub root : key.0 ≡ light_root_of p
  pub no_clash : IsClashFree (IsLightNodeIn p)

-- they are those of some publication
abbrev pub HoldSomeLight : Stock → LightManifest → Digest → Type 0
HoldSomeLight stock found key = (p : LightPublication) × AreLightHeld stock found key p
