-- What the parts of a snapshot hold together.
-- Source: this project's trees and manifests, docs/FORMATS.md.
use Rattle.std.specs.Prelude.{◌≡◌, ◌↔◌, ℕ, List}
use Rattle.tree_node.specs.Shelves.{IsClashFree}
use Rattle.tree_node.specs.Stocks.{HasNode}
use Rattle.tree_node.specs.declared.digest.Digest.{Digest}
use Rattle.tree_node.specs.declared.stock.Stock.{Stock}
use Rattle.tree_node.specs.declared.tree.Tree.{Tree}
use Rattle.osm_keys.specs.Manifests.{manifest_bytes, top_among}
use Rattle.osm_keys.specs.Publications.{IsNodeIn, IsPublicationOf, Publication, manifest_of, root_of, top_in}
use Rattle.osm_keys.specs.declared.edition.Edition.{Edition}
use Rattle.osm_keys.specs.declared.manifest.Manifest.{Manifest}

-- this edition, this stock, this manifest and this root are those of the publication, and no two different nodes of it
-- have one digest
pub record AreHeld (edition : Edition) (stock : Stock) (found : Manifest) (key : Digest) (p : Publication) : Type 0 where
  pub is : IsPublicationOf p.objects edition p
  pub nodes : (bytes : List ℕ) → HasNode stock bytes ↔ IsNodeIn p bytes
  pub manifest : manifest_bytes found ≡ manifest_of p
  pub tops : (tree : Tree) → top_among found.tops tree ≡ top_in p tree
  pub root : key.0 ≡ root_of p
  pub no_clash : IsClashFree (IsNodeIn p)

-- they are those of some publication
abbrev pub HoldSome : Edition → Stock → Manifest → Digest → Type 0
HoldSome edition stock found key = (p : Publication) × AreHeld edition stock found key p
