-- A further file by what is known of the places of others, and by all of these.
use Rattle.std.proofs.Common.{◌≡◌, ◌≤◌, ◌+◌, ◌-◌, ◌^◌, ℕ, List, [], ◌∷◌, ◌++◌, Option, Some, None, IsSome, length, refl, sym, ap, subst, ◌∙◌}
use Rattle.std.specs.Int.{to_be_bytes, w32}
use Rattle.std.specs.List.{AllByRecursion, Contains, flat_map}
use Rattle.std.specs.Option.{option_or}
use Rattle.std.specs.Prelude.{is_some, unwrap_or}
use Rattle.tree_node.specs.Digests.{digest}
use Rattle.node_pack.specs.Headers.{header_with}
use Rattle.node_pack.specs.Known.{IsPlaced}
use Rattle.node_pack.specs.Packs.{HasChildren, Kept, no_place, place_from, record_bytes}
use Rattle.node_pack.specs.Placed.{HasNodesAt}
use Rattle.node_pack.specs.declared.header.TheConstants.{HEADER_LEN}
use Rattle.node_pack.specs.declared.place.Place.{Place}
use Rattle.node_pack.specs.Further.{IsAdded, IsFurther, first_at, further, further_records, place_beside}
use Rattle.node_pack.specs.declared.header.TheConstants.{FURTHER_VERSION}
use Rattle.node_pack.proofs.shared.FurtherPlaces.{table_same}

-- what is known is true
abbrev pub Agree : (List ℕ → Option Place) → (List ℕ → Option Place) → Type 0
Agree seen old = (key : List ℕ) (place : Place) → seen key ≡ Some place → old key ≡ Some place

-- where one gives a place, and the other agrees, both give the same, and it fits
module _ (seen old : List ℕ → Option Place) (agree : Agree seen old) where
  pub same_places : (limit : ℕ) (keys : List (List ℕ)) → AllByRecursion (IsPlaced seen limit) keys → AllByRecursion (λ (key : List ℕ). seen key ≡ old key) keys
  same_places limit [] all = tt
  same_places limit (key ∷ keys) all = (all.0.is ∙ sym (agree key all.0.place all.0.is), same_places limit keys all.1)

  pub true_places : (limit : ℕ) (keys : List (List ℕ)) → AllByRecursion (IsPlaced seen limit) keys → AllByRecursion (IsPlaced old limit) keys
  true_places limit [] all = tt
  true_places limit (key ∷ keys) all =
      let one = all.0 in
      (record { place = one.place; is = agree key one.place one.is; near = one.near; wide = one.wide; short = one.short }, true_places limit keys all.1)

-- ---- further files

module _ (number : ℕ) (seen old : List ℕ → Option Place) (nodes : List Kept) (agree : Agree seen old) where
  agree_beside : Agree (place_beside number nodes seen) (place_beside number nodes old)
  agree_beside key place is = by (place_from (first_at number) nodes key) is
    where
      by : (o : Option Place) → option_or o (seen key) ≡ Some place → option_or o (old key) ≡ Some place
      by None is = agree key place is
      by (Some p) is = is

  records_over : (some : List Kept) → AllByRecursion (IsAdded number seen nodes) some
      → flat_map (record_bytes (place_beside number nodes seen)) some ≡ flat_map (record_bytes (place_beside number nodes old)) some
  records_over [] all = refl
  records_over (kept ∷ some) all =
      let same = same_places (place_beside number nodes seen) (place_beside number nodes old) agree_beside (2 ^ 64 - 1) kept.children all.0.placed in
      ap (λ (t : List ℕ). (to_be_bytes w32 (length kept.bytes) ++ (kept.bytes ++ t)) ++ flat_map (record_bytes (place_beside number nodes seen)) some)
      (table_same (place_beside number nodes seen) (place_beside number nodes old) kept.children same)
      ∙ ap (λ (l : List ℕ). record_bytes (place_beside number nodes old) kept ++ l) (records_over some all.1)

  added_over : (some : List Kept) → AllByRecursion (IsAdded number seen nodes) some → AllByRecursion (λ (kept : Kept). old (digest kept.bytes) ≡ None) some → AllByRecursion (IsAdded number old nodes) some
  added_over [] all fresh = tt
  added_over (kept ∷ some) all fresh = (
    record {
      children = all.0.children;
      placed = true_places (place_beside number nodes seen) (place_beside number nodes old) agree_beside (2 ^ 64 - 1) kept.children all.0.placed;
      short = all.0.short;
      is_new = fresh.0;
    },
    added_over some all.1 fresh.1,
  )

  same_file : (root : List ℕ) → further_records number seen nodes ≡ further_records number old nodes → further number seen root nodes ≡ further number old root nodes
  unfolding further
  same_file root same =
      let manifest = unwrap_or (place_from (first_at number) nodes root) no_place in
      ap (λ (l : List ℕ). header_with FURTHER_VERSION (record { root = record { 0 = root }; size = HEADER_LEN + length l; manifest = manifest }) ++ l) same

  -- by all places it is the same file
  pub file_over : (file root : List ℕ) → AllByRecursion (λ (kept : Kept). old (digest kept.bytes) ≡ None) nodes → IsFurther file number seen root nodes → IsFurther file number old root nodes
  file_over file root fresh is =
      let same = records_over nodes is.added in
      record {
        bytes = is.bytes ∙ same_file root same;
        wide = is.wide;
        added = added_over nodes is.added fresh;
        apart = is.apart;
        rooted = is.rooted;
        short = subst (λ (l : List ℕ). HEADER_LEN + length l ≤ 2 ^ 48) same is.short;
      }

-- ---- fewer nodes

-- the one place that there is
some_is : (a b : Place) → Some a ≡ Some b → a ≡ b
some_is a b e = Prim.cc

module _ (old fewer : List ℕ → Option Place) (agree : Agree fewer old) where
  fewer_one : (limit : ℕ) (key : List ℕ) → IsPlaced old limit key → IsSome (fewer key) → IsPlaced fewer limit key
  fewer_one limit key one some = by (fewer key) refl some
    where
      by : (o : Option Place) → fewer key ≡ o → IsSome o → IsPlaced fewer limit key
      by None none some = absurd (Prim.cc)
      by (Some place) is some =
          let same : place ≡ one.place = some_is place one.place (sym (agree key place is) ∙ one.is) in
          record { place = one.place; is = is ∙ ap (λ (p : Place). Some p) same; near = one.near; wide = one.wide; short = one.short }

  fewer_all : (limit : ℕ) (keys : List (List ℕ)) → AllByRecursion (IsPlaced old limit) keys → AllByRecursion (λ (key : List ℕ). IsSome (fewer key)) keys → AllByRecursion (IsPlaced fewer limit) keys
  fewer_all limit [] all some = tt
  fewer_all limit (key ∷ keys) all some = (fewer_one limit key all.0 some.0, fewer_all limit keys all.1 some.1)

  -- where the children of each have places among fewer, these are true too
  pub fewer_at : (bytes : List ℕ) (limit : ℕ) (nodes : List Kept) → ((kept : Kept) → Contains nodes kept → HasChildren kept.bytes kept.children → IsSome (fewer (digest kept.bytes))
      → AllByRecursion (λ (key : List ℕ). IsSome (fewer key)) kept.children) → HasNodesAt bytes limit old nodes → HasNodesAt bytes limit fewer nodes
  fewer_at bytes limit nodes closed are key place is =
      let has = are key place (agree key place is) in
      let here : IsSome (fewer (digest has.kept.bytes)) = ap (λ (o : Option Place). is_some o) (ap fewer has.has_digest ∙ is) in
      let placed = fewer_all limit has.kept.children has.placed (closed has.kept has.is_in has.children here) in
      let same = table_same fewer old has.kept.children (same_places fewer old agree limit has.kept.children placed) in
      record {
        kept = has.kept;
        is_in = has.is_in;
        has_digest = has.has_digest;
        children = has.children;
        placed = placed;
        short = has.short;
        stands = has.stands ∙ ap (λ (t : List ℕ). to_be_bytes w32 (length has.kept.bytes) ++ (has.kept.bytes ++ t)) (sym same);
        len = has.len;
        within = has.within;
      }
