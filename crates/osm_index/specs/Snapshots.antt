-- What a snapshot holds.
-- Source: this project's trees and manifests, docs/FORMATS.md.
use Rattle.std.specs.Prelude.{◌≡◌}
use Rattle.tree_node.specs.Shelves.{SameNodes}
use Rattle.tree_node.specs.Stocks.{HasNode}
use Rattle.osm_index.specs.Holdings.{AreHeld}
use Rattle.osm_keys.specs.Publications.{Publication}
use Rattle.osm_index.specs.declared.snapshot.Snapshot.{Snapshot}

-- the snapshot holds the publication: its edition, just its nodes, its manifest and its root; no two different nodes of
-- it have one digest
abbrev pub HoldsPublication : Snapshot → Publication → Type 0
HoldsPublication snapshot = AreHeld snapshot.edition snapshot.stock snapshot.manifest snapshot.root

-- both snapshots have one edition, one manifest and one root, and the same nodes: so they hold the same publications
pub record IsAsBefore (old new : Snapshot) : Type 0 where
  pub edition : new.edition ≡ old.edition
  pub manifest : new.manifest ≡ old.manifest
  pub root : new.root ≡ old.root
  pub nodes : SameNodes (HasNode old.stock) (HasNode new.stock)
