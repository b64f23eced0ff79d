-- Files beside which a further one comes.
use Rattle.std.proofs.Common.{◌≡◌, ◌≤◌, ◌<◌, ◌+◌, ◌-◌, ◌*◌, ◌^◌, ℕ, List, [], ◌∷◌, ◌++◌, ◌⊎◌, inl, inr, Option, Some, None, IsSome, length, replicate, refl, sym, ap, ◌∙◌, arith, append_assoc, length-append}
use Rattle.std.specs.Int.{to_be_bytes, w32}
use Rattle.std.specs.List.{AllByRecursion}
use Rattle.std.specs.Option.{option_or}
use Rattle.std.proofs.lemmas.List.Elements.{Contains-append_left, Contains-append_right}
use Rattle.node_pack.specs.Headers.{header_with}
use Rattle.node_pack.specs.Known.{IsPlaced}
use Rattle.node_pack.specs.Packs.{Kept, place_from}
use Rattle.node_pack.specs.Placed.{HasNodeAt, HasNodesAt}
use Rattle.node_pack.specs.Places.{at_place}
use Rattle.node_pack.specs.declared.place.Place.{Place}
use Rattle.node_pack.proofs.shared.FurtherPlaces.{IsLaid, is_laid, new_record, table_same}
use Rattle.node_pack.proofs.shared.RecordPlaces.{header_long, of_each}
use Rattle.node_pack.specs.Further.{IsAdded, IsFurther, first_at, further, further_header, further_len, further_records, place_beside}
use Rattle.pack_files.specs.Joined.{AreShort, filled, joined}
use Rattle.node_pack.specs.declared.header.TheConstants.{FURTHER_VERSION}
use Rattle.pack_files.proofs.JoinedLemmas.{at_front, joined_more, short_long}

-- a place is the one or the other
or_cases : (a b : Option Place) (place : Place) → option_or a b ≡ Some place → (a ≡ Some place) ⊎ (b ≡ Some place)
or_cases None b place is = inr is
or_cases (Some q) b place is = inl is

-- ---- a further file

module _ (number : ℕ) (old : List ℕ → Option Place) (file root : List ℕ) (nodes : List Kept) (is : IsFurther file number old root nodes) where
  abbrev places : List ℕ → Option Place
  places = place_beside number nodes old

  -- each node of it is one of these
  one_new : (key : List ℕ) (place : Place) → place_from (first_at number) nodes key ≡ Some place → IsLaid number nodes (length (further_records number old nodes)) key place
  one_new key place found = is_laid places number nodes key place found

  -- which has no old place
  pub no_old : (key : List ℕ) (place : Place) → place_from (first_at number) nodes key ≡ Some place → old key ≡ None
  no_old key place found =
      let has = one_new key place found in
      ap old (sym has.has_digest) ∙ (of_each (IsAdded number old nodes) nodes has.kept is.added has.is_in).is_new

  -- what had an old place keeps it
  pub stays : (key : List ℕ) (place : Place) → old key ≡ Some place → places key ≡ old key
  stays key place stood = by (place_from (first_at number) nodes key) refl
    where
      by : (o : Option Place) → place_from (first_at number) nodes key ≡ o → places key ≡ old key
      by None none = ap (λ (o : Option Place). option_or o (old key)) none
      by (Some p) found = absurd (let none = no_old key p found in Prim.cc)

  pub all_stay : (limit : ℕ) (keys : List (List ℕ)) → AllByRecursion (IsPlaced old limit) keys → AllByRecursion (λ (key : List ℕ). places key ≡ old key) keys
  all_stay limit [] all = tt
  all_stay limit (key ∷ keys) all = (stays key all.0.place all.0.is, all_stay limit keys all.1)

  pub all_placed : (limit : ℕ) (keys : List (List ℕ)) → AllByRecursion (IsPlaced old limit) keys → AllByRecursion (IsPlaced places limit) keys
  all_placed limit [] all = tt
  all_placed limit (key ∷ keys) all =
      let one = all.0 in
      (record { place = one.place; is = stays key one.place one.is ∙ one.is; near = one.near; wide = one.wide; short = one.short }, all_placed limit keys all.1)

  -- a new node's place is in its file
  pub new_placed : number < 65535 → (key : List ℕ) (place : Place) → place_from (first_at number) nodes key ≡ Some place → IsPlaced places (2 ^ 64 - 1) key
  new_placed few key place found =
      let has = one_new key place found in
      let own = of_each (IsAdded number old nodes) nodes has.kept is.added has.is_in in
      let end : place.at + place.len ≤ number * 2 ^ 48 + 2 ^ 48 = omega (arith, has.within, is.short) in
      record {
        place = place;
        is = ap (λ (o : Option Place). option_or o (old key)) found;
        near = omega (arith, end, has.len, few);
        wide = omega (arith, end, has.len, few);
        short = omega (arith, has.len, own.short);
      }

  -- the root's is
  pub root_placed : number < 65535 → IsPlaced places (2 ^ 64 - 1) root
  root_placed few = by (place_from (first_at number) nodes root) refl is.rooted
    where
      by : (o : Option Place) → place_from (first_at number) nodes root ≡ o → IsSome o → IsPlaced places (2 ^ 64 - 1) root
      by None none some = absurd (Prim.cc)
      by (Some place) found some = new_placed few root place found

  pub further_long : length file ≡ further_len number old nodes
  unfolding further
  further_long =
      ap (λ (l : List ℕ). length l) is.bytes
      ∙ omega (arith, length-append (header_with FURTHER_VERSION (further_header number old root nodes)) (further_records number old nodes), header_long FURTHER_VERSION (further_header number old root nodes) is.wide)

-- ---- beside other files

module _ (contents : List (List ℕ)) (old : List ℕ → Option Place) (olds nodes : List Kept) (file root : List ℕ) (short : AreShort contents) (are : HasNodesAt (joined contents) (2 ^ 64 - 1) old olds)
    (is : IsFurther file (length contents) old root nodes) where
  abbrev number : ℕ
  number = length contents

  abbrev beside : List ℕ → Option Place
  beside = place_beside number nodes old

  abbrev before : List ℕ
  before = joined contents ++ header_with FURTHER_VERSION (further_header number old root nodes)

  before_long : length before ≡ first_at number
  before_long =
      let header = further_header number old root nodes in
      omega (arith, length-append (joined contents) (header_with FURTHER_VERSION header), header_long FURTHER_VERSION header is.wide, short_long contents short)

  abbrev zeros : List ℕ
  zeros = replicate (2 ^ 48 - length file) 0

  whole : joined (contents ++ file ∷ []) ≡ (before ++ further_records number old nodes) ++ zeros
  unfolding further
  whole =
      let header = header_with FURTHER_VERSION (further_header number old root nodes) in
      let records = further_records number old nodes in
      joined_more contents file
      ∙ ap (λ (l : List ℕ). joined contents ++ (l ++ zeros)) is.bytes
      ∙ sym (append_assoc (joined contents) (header ++ records) zeros)
      ∙ ap (λ (l : List ℕ). l ++ zeros) (sym (append_assoc (joined contents) header records))

  -- a new node stands at its place
  at_new : (key : List ℕ) (place : Place) → place_from (first_at number) nodes key ≡ Some place → HasNodeAt (joined (contents ++ file ∷ [])) (2 ^ 64 - 1) beside (nodes ++ olds) key place
  at_new key place found =
      let records = further_records number old nodes in
      let has = new_record beside number nodes before before_long key place found in
      let own = of_each (IsAdded number old nodes) nodes has.kept is.added has.is_in in
      record {
        kept = has.kept;
        is_in = Contains-append_left nodes olds has.kept has.is_in;
        has_digest = has.has_digest;
        children = own.children;
        placed = own.placed;
        short = own.short;
        stands = ap (at_place place) whole ∙ at_front place (before ++ records) zeros (omega (arith, has.within, length-append before records)) ∙ has.stands;
        len = has.len;
        within = omega (arith, has.within, ap (λ (l : List ℕ). length l) whole, length-append (before ++ records) zeros, length-append before records);
      }

  -- an old one where it stood
  at_old : (key : List ℕ) (place : Place) → old key ≡ Some place → HasNodeAt (joined (contents ++ file ∷ [])) (2 ^ 64 - 1) beside (nodes ++ olds) key place
  at_old key place stood =
      let has = are key place stood in
      let same = table_same beside old has.kept.children (all_stay number old file root nodes is (2 ^ 64 - 1) has.kept.children has.placed) in
      record {
        kept = has.kept;
        is_in = Contains-append_right nodes olds has.kept has.is_in;
        has_digest = has.has_digest;
        children = has.children;
        placed = all_placed number old file root nodes is (2 ^ 64 - 1) has.kept.children has.placed;
        short = has.short;
        stands = ap (at_place place) (joined_more contents file) ∙ at_front place (joined contents) (filled file) has.within ∙ has.stands
            ∙ ap (λ (t : List ℕ). to_be_bytes w32 (length has.kept.bytes) ++ (has.kept.bytes ++ t)) (sym same);
        len = has.len;
        within = omega (arith, has.within, ap (λ (l : List ℕ). length l) (joined_more contents file), length-append (joined contents) (filled file));
      }

  pub placed_beside : HasNodesAt (joined (contents ++ file ∷ [])) (2 ^ 64 - 1) beside (nodes ++ olds)
  placed_beside key place found =
      elim (or_cases (place_from (first_at number) nodes key) (old key) place found) [
        | inl new ↦ at_new key place new
        | inr stood ↦ at_old key place stood
      ]
