-- What stands where in a pack.
use Rattle.std.proofs.Common.{◌≡◌, ◌≤◌, ◌+◌, ◌^◌, ℕ, List, [], ◌∷◌, ◌++◌, Option, Some, None, IsSome, length, refl, sym, ap, subst, ◌∙◌, arith, length-append}
use Rattle.std.specs.List.{AllByRecursion}
use Rattle.std.specs.Prelude.{unwrap_or}
use Rattle.node_pack.specs.declared.header.TheConstants.{VERSION}
use Rattle.node_pack.specs.Headers.{header_bytes}
use Rattle.node_pack.specs.Known.{IsPlaced}
use Rattle.node_pack.specs.Packs.{IsKept, IsPack, Kept, no_place, pack, pack_len, place_from, place_in, records_in}
use Rattle.node_pack.specs.Placed.{HasNodesAt}
use Rattle.node_pack.specs.declared.header.Header.{Header}
use Rattle.node_pack.specs.declared.place.Place.{Place}
use Rattle.node_pack.proofs.shared.RecordPlaces.{HasRecord, header_long, of_each, there}

-- in a pack
pub in_pack : (root : List ℕ) (nodes : List Kept) (key : List ℕ) (place : Place) → length root ≡ 32 → place_in nodes key ≡ Some place
    → HasRecord (place_in nodes) nodes (pack root nodes) key (pack_len nodes) place
unfolding pack
in_pack root nodes key place wide is =
    let header : Header = record { root = record { 0 = root }; size = pack_len nodes; manifest = unwrap_or (place_in nodes root) no_place } in
    let long : length (header_bytes header) ≡ 60 = header_long VERSION header wide in
    let found = there (place_in nodes) (header_bytes header) nodes key place (ap (λ (n : ℕ). place_from n nodes key) long ∙ is) in
    subst (λ (n : ℕ). HasRecord (place_in nodes) nodes (header_bytes header ++ records_in nodes) key (n + length (records_in nodes)) place) long found

-- the children of its nodes have places
pub are_placed : (root : List ℕ) (nodes : List Kept) → IsPack (pack root nodes) root nodes → (keys : List (List ℕ)) → AllByRecursion (λ (key : List ℕ). IsSome (place_in nodes key)) keys
    → AllByRecursion (IsPlaced (place_in nodes) (2 ^ 48)) keys
are_placed root nodes is [] all = tt
are_placed root nodes is (key ∷ keys) all = (one (place_in nodes key) refl all.0, are_placed root nodes is keys all.1)
  where
    one : (o : Option Place) → place_in nodes key ≡ o → IsSome o → IsPlaced (place_in nodes) (2 ^ 48) key
    one None none some = absurd (Prim.cc)
    one (Some place) found some =
        let has = in_pack root nodes key place is.wide found in
        let short = (of_each (IsKept nodes) nodes has.kept is.kept has.is_in).short in
        record {
          place = place;
          is = found;
          near = omega (arith, has.within, has.len, is.short);
          wide = omega (arith, has.within, has.len, is.short);
          short = omega (arith, has.len, short);
        }

-- the header of a pack
abbrev pub header_in : List ℕ → List Kept → Header
header_in root nodes = record { root = record { 0 = root }; size = pack_len nodes; manifest = unwrap_or (place_in nodes root) no_place }

pub pack_long : (root : List ℕ) (nodes : List Kept) → length root ≡ 32 → length (pack root nodes) ≡ pack_len nodes
unfolding pack
pack_long root nodes wide =
    omega (arith, length-append (header_bytes (header_in root nodes)) (records_in nodes), header_long VERSION (header_in root nodes) wide)

-- a pack has its nodes at their places
pub packed : (root : List ℕ) (nodes : List Kept) → IsPack (pack root nodes) root nodes → HasNodesAt (pack root nodes) (2 ^ 48) (place_in nodes) nodes
packed root nodes is key place found =
    let has = in_pack root nodes key place is.wide found in
    let own = of_each (IsKept nodes) nodes has.kept is.kept has.is_in in
    record {
      kept = has.kept;
      is_in = has.is_in;
      has_digest = has.has_digest;
      children = own.children;
      placed = are_placed root nodes is has.kept.children own.closed;
      short = own.short;
      stands = has.stands;
      len = has.len;
      within = subst (λ (n : ℕ). place.at + place.len ≤ n) (sym (pack_long root nodes is.wide)) has.within;
    }
