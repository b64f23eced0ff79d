-- How long places, records and headers are, and where a record stands among others.
use Rattle.std.proofs.Common.{◌≡◌, ◌≤◌, ◌+◌, ◌*◌, inl, inr, ℕ, List, [], ◌∷◌, ◌++◌, Bool, true, false, cond, Option, Some, length, take, refl, sym, ap, subst, ◌∙◌, arith, append_assoc, length-append, w32, w64}
use Rattle.std.specs.Int.{to_be_bytes}
use Rattle.std.specs.List.{AllByRecursion, Contains, flat_map}
use Rattle.std.specs.Str.{bytes_eq}
use Rattle.std.specs.Prelude.{unwrap_or}
use Rattle.std.proofs.lemmas.List.{drop_at, take_at}
use Rattle.std.proofs.lemmas.Slice.Eq.{bytes_eq-Decides}
use Rattle.osm_keys.proofs.shared.Members.{first_or_in_rest, here, in_rest}
use Rattle.tree_node.specs.Digests.{digest}
use Rattle.tree_node.proofs.shared.FieldLemmas.{wide32, wide64}
use Rattle.node_pack.specs.Headers.{header_with}
use Rattle.node_pack.specs.Packs.{Kept, no_place, place_from, record_bytes, record_len, table}
use Rattle.node_pack.specs.Places.{at_place, place_bytes}
use Rattle.node_pack.specs.declared.header.Header.{Header}
use Rattle.node_pack.specs.declared.header.TheConstants.{MAGIC}
use Rattle.node_pack.specs.declared.place.Place.{Place}

-- ---- lengths

pub place_long : (p : Place) → length (place_bytes p) ≡ 12
place_long p = omega (arith, length-append (to_be_bytes w64 p.at) (to_be_bytes w32 p.len), wide64.len p.at, wide32.len p.len)

pub table_long : (place_of : List ℕ → Option Place) (children : List (List ℕ)) → length (table place_of children) ≡ 12 * length children
table_long place_of [] = refl
table_long place_of (child ∷ children) =
    let p = unwrap_or (place_of child) no_place in
    omega (arith, length-append (place_bytes p) (table place_of children), place_long p, table_long place_of children)

pub record_long : (place_of : List ℕ → Option Place) (kept : Kept) → length (record_bytes place_of kept) ≡ record_len kept
record_long place_of kept =
    omega (
      arith,
      length-append (to_be_bytes w32 (length kept.bytes)) (kept.bytes ++ table place_of kept.children),
      length-append kept.bytes (table place_of kept.children),
      wide32.len (length kept.bytes),
      table_long place_of kept.children,
    )

-- how many bytes records have
abbrev pub lens : List Kept → ℕ
lens [] = 0
lens (x ∷ nodes) = record_len x + lens nodes

pub lens-append : (xs ys : List Kept) → lens (xs ++ ys) ≡ lens xs + lens ys
lens-append [] ys = omega arith
lens-append (x ∷ xs) ys = omega (arith, lens-append xs ys)

pub records_long : (place_of : List ℕ → Option Place) (nodes : List Kept) → length (flat_map (record_bytes place_of) nodes) ≡ lens nodes
records_long place_of [] = refl
records_long place_of (x ∷ nodes) =
    omega (arith, length-append (record_bytes place_of x) (flat_map (record_bytes place_of) nodes), record_long place_of x, records_long place_of nodes)

-- the header of a file
pub header_long : (version : ℕ) (h : Header) → length h.root.0 ≡ 32 → length (header_with version h) ≡ 60
header_long version h wide =
    omega (
      arith,
      length-append (to_be_bytes w32 MAGIC) (to_be_bytes w32 version ++ (h.root.0 ++ (to_be_bytes w64 h.size ++ place_bytes h.manifest))),
      length-append (to_be_bytes w32 version) (h.root.0 ++ (to_be_bytes w64 h.size ++ place_bytes h.manifest)),
      length-append h.root.0 (to_be_bytes w64 h.size ++ place_bytes h.manifest),
      length-append (to_be_bytes w64 h.size) (place_bytes h.manifest),
      place_long h.manifest,
      wide,
    )

-- ---- places

-- what is so of each of a list is so of what it contains
pub of_each : {X : Type 0} (P : X → Type 0) (xs : List X) (x : X) → AllByRecursion P xs → Contains xs x → P x
of_each P [] x all h = absurd (omega (arith, h.1))
of_each P (y ∷ xs) x all h = elim (first_or_in_rest y xs x h) [ inl e ↦ subst P e all.0 | inr more ↦ of_each P xs x all.1 more ]

-- The record of a node with this digest stands at this place of the bytes, before their end.
pub record HasRecord (place_of : List ℕ → Option Place) (nodes : List Kept) (bytes key : List ℕ) (end : ℕ) (place : Place) : Type 0 where
  pub kept : Kept
  pub is_in : Contains nodes kept
  pub has_digest : digest kept.bytes ≡ key
  pub stands : at_place place bytes ≡ record_bytes place_of kept
  pub len : place.len ≡ record_len kept
  pub within : place.at + place.len ≤ end

-- where a search among records finds a node
by_test : (place_of : List ℕ → Option Place) (before : List ℕ) (kept : Kept) (others : List Kept) (key : List ℕ) (place : Place) (b : Bool) → bytes_eq (digest kept.bytes) key ≡ b
    → cond b (Some (record { at = length before; len = record_len kept })) (place_from (length before + record_len kept) others key) ≡ Some place
    → (place_from (length before + record_len kept) others key ≡ Some place
    → HasRecord place_of others (before ++ (record_bytes place_of kept ++ flat_map (record_bytes place_of) others)) key (length before + length (record_bytes place_of kept ++ flat_map (record_bytes place_of) others)) place)
    → HasRecord place_of (kept ∷ others) (before ++ (record_bytes place_of kept ++ flat_map (record_bytes place_of) others)) key (length before + length (record_bytes place_of kept ++ flat_map (record_bytes place_of) others)) place
by_test place_of before kept others key place true hit is more =
    let one = record_bytes place_of kept in
    let rest = flat_map (record_bytes place_of) others in
    let p : Place = record { at = length before; len = record_len kept } in
    let same : p ≡ place = some_is p place is in
    subst (HasRecord place_of (kept ∷ others) (before ++ (one ++ rest)) key (length before + length (one ++ rest))) same (record {
      kept = kept;
      is_in = here kept others;
      has_digest = (bytes_eq-Decides (digest kept.bytes) key).0 hit;
      stands = ap (λ (l : List ℕ). take (record_len kept) l) (drop_at before (one ++ rest) (length before) refl) ∙ take_at one rest (record_len kept) (record_long place_of kept);
      len = refl;
      within = omega (arith, length-append one rest, record_long place_of kept);
    })
  where
    some_is : (a b : Place) → Some a ≡ Some b → a ≡ b
    some_is a b e = Prim.cc
by_test place_of before kept others key place false miss is more =
    let found = more is in
    record {
      kept = found.kept;
      is_in = in_rest kept others found.kept found.is_in;
      has_digest = found.has_digest;
      stands = found.stands;
      len = found.len;
      within = found.within;
    }

pub there : (place_of : List ℕ → Option Place) (before : List ℕ) (nodes : List Kept) (key : List ℕ) (place : Place) → place_from (length before) nodes key ≡ Some place
    → HasRecord place_of nodes (before ++ flat_map (record_bytes place_of) nodes) key (length before + length (flat_map (record_bytes place_of) nodes)) place
there place_of before [] key place is = absurd (Prim.cc)
there place_of before (kept ∷ others) key place is =
    let one = record_bytes place_of kept in
    let rest = flat_map (record_bytes place_of) others in
    by_test place_of before kept others key place (bytes_eq (digest kept.bytes) key) refl is (λ later.
    let longer : length (before ++ one) ≡ length before + record_len kept = length-append before one ∙ ap (λ (n : ℕ). length before + n) (record_long place_of kept) in
    let found = there place_of (before ++ one) others key place (ap (λ (n : ℕ). place_from n others key) longer ∙ later) in
    let whole : (before ++ one) ++ rest ≡ before ++ (one ++ rest) = append_assoc before one rest in
    record {
      kept = found.kept;
      is_in = found.is_in;
      has_digest = found.has_digest;
      stands = ap (at_place place) (sym whole) ∙ found.stands;
      len = found.len;
      within = omega (arith, found.within, length-append before one, length-append one rest);
    })
