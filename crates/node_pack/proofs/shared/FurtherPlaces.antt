-- Where the nodes of a further file stand, and tables of the same places.
use Rattle.std.proofs.Common.{◌≡◌, ◌≤◌, ◌+◌, ℕ, List, [], ◌∷◌, ◌++◌, Option, Some, length, replicate, refl, ap, ◌∙◌, arith}
use Rattle.std.specs.List.{AllByRecursion, Contains, flat_map}
use Rattle.std.specs.Prelude.{unwrap_or}
use Rattle.std.proofs.lemmas.List.{length-replicate}
use Rattle.tree_node.specs.Digests.{digest}
use Rattle.node_pack.specs.Further.{first_at}
use Rattle.node_pack.specs.Packs.{Kept, no_place, place_from, record_bytes, record_len, table}
use Rattle.node_pack.specs.Places.{place_bytes}
use Rattle.node_pack.specs.declared.place.Place.{Place}
use Rattle.node_pack.proofs.shared.RecordPlaces.{HasRecord, there}

-- ---- tables that stay

-- where children have the same places, the bytes of their table are the same
pub table_same : (place_of other : List ℕ → Option Place) (children : List (List ℕ)) → AllByRecursion (λ (child : List ℕ). place_of child ≡ other child) children → table place_of children ≡ table other children
table_same place_of other [] all = refl
table_same place_of other (child ∷ children) all =
    ap (λ (o : Option Place). place_bytes (unwrap_or o no_place) ++ table place_of children) all.0
    ∙ ap (λ (l : List ℕ). place_bytes (unwrap_or (other child) no_place) ++ l) (table_same place_of other children all.1)

-- ---- nodes of a further file

-- nodes are found among their records, whatever stands before these
pub new_record : (place_of : List ℕ → Option Place) (number : ℕ) (nodes : List Kept) (before : List ℕ) → length before ≡ first_at number → (key : List ℕ) (place : Place) → place_from (first_at number) nodes key ≡ Some place
    → HasRecord place_of nodes (before ++ flat_map (record_bytes place_of) nodes) key (length before + length (flat_map (record_bytes place_of) nodes)) place
new_record place_of number nodes before long key place found = there place_of before nodes key place (ap (λ (n : ℕ). place_from n nodes key) long ∙ found)

-- What a node that is found says of its place.
pub record IsLaid (number : ℕ) (nodes : List Kept) (long : ℕ) (key : List ℕ) (place : Place) : Type 0 where
  pub kept : Kept
  pub is_in : Contains nodes kept
  pub has_digest : digest kept.bytes ≡ key
  pub len : place.len ≡ record_len kept
  pub within : place.at + place.len ≤ first_at number + long

pub is_laid : (place_of : List ℕ → Option Place) (number : ℕ) (nodes : List Kept) (key : List ℕ) (place : Place) → place_from (first_at number) nodes key ≡ Some place
    → IsLaid number nodes (length (flat_map (record_bytes place_of) nodes)) key place
is_laid place_of number nodes key place found =
    let long = length-replicate {A = ℕ} (first_at number) 0 in
    let has = new_record place_of number nodes (replicate (first_at number) 0) long key place found in
    record { kept = has.kept; is_in = has.is_in; has_digest = has.has_digest; len = has.len; within = omega (arith, has.within, long) }
