-- What a snapshot holds it holds as long as it is as before.
use Rattle.std.proofs.Common.{◌∙◌, ap, sym}
use Rattle.osm_keys.specs.Manifests.{manifest_bytes, top_among}
use Rattle.osm_keys.specs.Publications.{Publication}
use Rattle.osm_index.specs.Snapshots.{HoldsPublication, IsAsBefore}
use Rattle.osm_keys.specs.declared.manifest.Manifest.{Manifest}
use Rattle.osm_index.specs.declared.snapshot.Snapshot.{Snapshot}
use Rattle.tree_node.specs.declared.tree.Tree.{Tree}

pub still_held : (old new : Snapshot) (p : Publication) → IsAsBefore old new → HoldsPublication old p → HoldsPublication new p
still_held old new p same held = record {
  is = record {
    published = held.is.published;
    same_objects = held.is.same_objects;
    same_edition = held.is.same_edition ∙ sym same.edition;
  };
  nodes = λ bytes. ((λ h. (held.nodes bytes).0 ((same.nodes bytes).0 h)), (λ h. (same.nodes bytes).1 ((held.nodes bytes).1 h)));
  manifest = ap manifest_bytes same.manifest ∙ held.manifest;
  tops = λ (tree : Tree). ap (λ (m : Manifest). top_among m.tops tree) same.manifest ∙ held.tops tree;
  root = ap (λ (d : _). d.0) same.root ∙ held.root;
  no_clash = held.no_clash;
}
