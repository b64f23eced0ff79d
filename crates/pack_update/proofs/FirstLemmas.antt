-- A pack of a publication as the first file.
use Rattle.std.proofs.Common.{◌≡◌, ◌↔◌, ◌≤◌, ◌-◌, ◌^◌, ℕ, List, [], ◌∷◌, Some, IsSome, length, refl, subst}
use Rattle.std.specs.List.{Contains}
use Rattle.tree_node.specs.Digests.{digest}
use Rattle.osm_keys.specs.Publications.{IsNodeIn, Publication, root_of}
use Rattle.osm_keys.proofs.shared.EntriesFit.{all_from}
use Rattle.node_pack.specs.Known.{IsPlaced}
use Rattle.node_pack.specs.Packs.{HasChildren, IsKept, IsPack, Kept, pack, place_in}
use Rattle.node_pack.specs.Placed.{HasNodesAt}
use Rattle.node_pack.specs.declared.header.TheConstants.{HEADER_LEN}
use Rattle.node_pack.specs.declared.place.Place.{Place}
use Rattle.node_pack.proofs.shared.RecordPlaces.{of_each}
use Rattle.pack_files.specs.Joined.{joined}
use Rattle.pack_update.specs.Files.{AreFilesOf}
use Rattle.pack_update.proofs.PlaceLemmas.{near_is, place_found}

pub first_files : (p : Publication) (nodes : List Kept) (manifest : Place) → IsPack (pack (root_of p) nodes) (root_of p) nodes
    → ((bytes : List ℕ) → ((kept : Kept) × Contains nodes kept × (kept.bytes ≡ bytes)) ↔ IsNodeIn p bytes)
    → place_in nodes (root_of p) ≡ Some manifest
    → HasNodesAt (joined (pack (root_of p) nodes ∷ [])) (2 ^ 64 - 1) (place_in nodes) nodes
    → IsPlaced (place_in nodes) (2 ^ 64 - 1) (root_of p)
    → length (pack (root_of p) nodes) ≤ 2 ^ 48
    → AreFilesOf (pack (root_of p) nodes ∷ []) p manifest
first_files p nodes manifest is same found are placed short = record {
  places = place_in nodes;
  nodes = nodes;
  short = (short, tt);
  are = are;
  own = all_from (λ (kept : Kept). IsNodeIn p kept.bytes) nodes (λ kept is_in. (same kept.bytes).0 (kept, is_in, refl));
  listed = all_from (λ (kept : Kept). HasChildren kept.bytes kept.children) nodes (λ kept is_in. (of_each (IsKept nodes) nodes kept is.kept is_in).children);
  all = λ bytes is_node.
      let (kept, is_in, e) = (same bytes).1 is_node in
      subst (λ (b : List ℕ). IsSome (place_in nodes (digest b))) e (place_found HEADER_LEN nodes kept is_in);
  rooted = found;
  near = near_is (place_in nodes) (root_of p) manifest found placed;
}
