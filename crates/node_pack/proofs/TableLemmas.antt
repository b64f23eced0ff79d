-- Tables and records that are written one after the other.
use Rattle.std.proofs.Common.{◌≡◌, ◌<◌, ◌≤◌, ◌+◌, ℕ, List, Option, get_or, take, sym, subst, length}
use Rattle.std.specs.HashMap.{HashMap, get}
use Rattle.std.specs.Io.KnownBytes.{Appends}
use Rattle.std.specs.List.{flat_map}
use Rattle.std.specs.Prelude.{unwrap_or}
use Rattle.byte_io.specs.Written.{AppendsFront}
use Rattle.tree_node.specs.Keys.{digest_eq}
use Rattle.tree_node.specs.declared.digest.Digest.{Digest}
use Rattle.node_pack.specs.Packs.{digests_of, no_place, record_bytes, table}
use Rattle.node_pack.specs.Places.{place_bytes}
use Rattle.node_pack.specs.declared.gathered.Gathered.{Gathered}
use Rattle.node_pack.specs.declared.place.Place.{Place}
use Rattle.node_pack.specs.internal.Gathering.{kept_of, kepts, place_by}
use Rattle.node_pack.proofs.WriteLemmas.{all_written, flat_map-map, one_more_written, part_written}

module _ {S : Type 0} (places : HashMap Digest Place S) where
  -- the place of a child, as it is written
  abbrev pub place_piece : Digest → List ℕ
  place_piece child = place_bytes (unwrap_or (get digest_eq places child) no_place)

  -- the record of a node, as it is written
  abbrev pub record_piece : Gathered → List ℕ
  record_piece node = record_bytes (place_by places) (kept_of node)

  table_pieces : (children : List Digest) → table (place_by places) (digests_of children) ≡ flat_map place_piece children
  table_pieces children = flat_map-map (λ (child : List ℕ). place_bytes (unwrap_or (place_by places child) no_place)) (λ (key : Digest). key.0) children

  record_pieces : (nodes : List Gathered) → flat_map (record_bytes (place_by places)) (kepts nodes) ≡ flat_map record_piece nodes
  record_pieces nodes = flat_map-map (record_bytes (place_by places)) kept_of nodes

  pub table_written : (children : List Digest) (i : ℕ) (old new : Option (List ℕ)) → length children ≤ i → Appends old new (flat_map place_piece (take i children)) → Appends old new (table (place_by places) (digests_of children))
  table_written children i old new le so_far = subst (Appends old new) (sym (table_pieces children)) (all_written place_piece children i old new le so_far)

  pub table_begun : (children : List Digest) (i : ℕ) (d : Digest) (old mid new : Option (List ℕ)) (place : Place) → i < length children → place ≡ unwrap_or (get digest_eq places (get_or children i d)) no_place
      → Appends old mid (flat_map place_piece (take i children)) → AppendsFront mid new (place_bytes place) → AppendsFront old new (table (place_by places) (digests_of children))
  table_begun children i d old mid new place lt is so_far part =
      subst (AppendsFront old new) (sym (table_pieces children)) (part_written place_piece children i d old mid new lt so_far (subst (λ (p : Place). AppendsFront mid new (place_bytes p)) is part))

  pub table_more : (children : List Digest) (i : ℕ) (d : Digest) (old mid new : Option (List ℕ)) (place : Place) → i < length children → place ≡ unwrap_or (get digest_eq places (get_or children i d)) no_place
      → Appends old mid (flat_map place_piece (take i children)) → Appends mid new (place_bytes place) → Appends old new (flat_map place_piece (take (i + 1) children))
  table_more children i d old mid new place lt is so_far more =
      one_more_written place_piece children i d old mid new lt so_far (subst (λ (p : Place). Appends mid new (place_bytes p)) is more)

  pub records_written : (nodes : List Gathered) (i : ℕ) (old new : Option (List ℕ)) → length nodes ≤ i → Appends old new (flat_map record_piece (take i nodes)) → Appends old new (flat_map (record_bytes (place_by places)) (kepts nodes))
  records_written nodes i old new le so_far = subst (Appends old new) (sym (record_pieces nodes)) (all_written record_piece nodes i old new le so_far)

  pub records_begun : (nodes : List Gathered) (i : ℕ) (d node : Gathered) (old mid new : Option (List ℕ)) → i < length nodes → node ≡ get_or nodes i d → Appends old mid (flat_map record_piece (take i nodes))
      → AppendsFront mid new (record_piece node) → AppendsFront old new (flat_map (record_bytes (place_by places)) (kepts nodes))
  records_begun nodes i d node old mid new lt is so_far part =
      subst (AppendsFront old new) (sym (record_pieces nodes)) (part_written record_piece nodes i d old mid new lt so_far (subst (λ (n : Gathered). AppendsFront mid new (record_piece n)) is part))

  pub records_more : (nodes : List Gathered) (i : ℕ) (d node : Gathered) (old mid new : Option (List ℕ)) → i < length nodes → node ≡ get_or nodes i d → Appends old mid (flat_map record_piece (take i nodes))
      → Appends mid new (record_piece node) → Appends old new (flat_map record_piece (take (i + 1) nodes))
  records_more nodes i d node old mid new lt is so_far more =
      one_more_written record_piece nodes i d old mid new lt so_far (subst (λ (n : Gathered). Appends mid new (record_piece n)) is more)
