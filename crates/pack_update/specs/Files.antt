-- Files that have the nodes of a publication.
-- Source: this project's packs, docs/FORMATS.md.
use Rattle.std.specs.List.{AllByRecursion}
use Rattle.std.specs.Prelude.{◌≡◌, ◌<◌, ◌-◌, ◌^◌, ℕ, List, Option, Some, IsSome}
use Rattle.tree_node.specs.Digests.{digest}
use Rattle.osm_keys.specs.Publications.{IsNodeIn, Publication, root_of}
use Rattle.node_pack.specs.Packs.{HasChildren, Kept}
use Rattle.node_pack.specs.Placed.{HasNodesAt}
use Rattle.node_pack.specs.declared.place.Place.{Place}
use Rattle.pack_files.specs.Joined.{AreShort, joined}

-- Files with these contents have the nodes of the publication, each at a place of its own from which its children are found, and
-- the manifest at this one. They may have other nodes too, to which no place leads.
pub record AreFilesOf (contents : List (List ℕ)) (p : Publication) (manifest : Place) : Type 0 where
  pub places : List ℕ → Option Place
  pub nodes : List Kept
  pub short : AreShort contents
  pub are : HasNodesAt (joined contents) (2 ^ 64 - 1) places nodes
  pub own : AllByRecursion (λ (kept : Kept). IsNodeIn p kept.bytes) nodes
  pub listed : AllByRecursion (λ (kept : Kept). HasChildren kept.bytes kept.children) nodes
  pub all : (bytes : List ℕ) → IsNodeIn p bytes → IsSome (places (digest bytes))
  pub rooted : places (root_of p) ≡ Some manifest
  pub near : manifest.at < 2 ^ 64 - 1
