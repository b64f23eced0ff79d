-- Where records stand that are laid out one after the other.
use Rattle.std.proofs.Common.{◌≡◌, ◌≢◌, ◌≤◌, ◌+◌, ◌*◌, ◌^◌, ℕ, List, [], ◌∷◌, ◌++◌, Bool, true, false, cond, Option, Some, IsSome, inl, inr, arith, length, length-append, append_assoc, refl, sym, ap, subst, ◌∙◌, w32, w64}
use Rattle.std.specs.Int.{to_be_bytes}
use Rattle.std.specs.List.{AllByRecursion, Contains, flat_map}
use Rattle.std.specs.Str.{bytes_eq}
use Rattle.std.specs.Prelude.{unwrap_or}
use Rattle.std.proofs.lemmas.Bool.{cases_Bool}
use Rattle.osm_keys.proofs.shared.Members.{first_or_in_rest, none}
use Rattle.tree_node.specs.Digests.{digest}
use Rattle.tree_node.proofs.shared.FieldLemmas.{wide32, wide64}
use Rattle.node_pack.specs.Packs.{AreApart, Kept, no_place, pack_len, place_from, place_in, record_bytes, record_len, table}
use Rattle.node_pack.specs.Places.{place_bytes}
use Rattle.node_pack.specs.declared.place.Place.{Place}
use Rattle.pack_assembly.specs.declared.layout.PlacedRow.{PlacedRow}
use Rattle.pack_assembly.specs.declared.row.Row.{Row}
use Rattle.pack_assembly.specs.internal.Order.{lens}
use Rattle.pack_assembly.specs.internal.Placing.{ArePlaced, AreShort, placed_from}
use Rattle.pack_assembly.proofs.ApartLemmas.{other_is, same_is}

-- ---- lengths

pub lens-append : (xs ys : List Kept) → lens (xs ++ ys) ≡ lens xs + lens ys
lens-append [] ys = omega arith
lens-append (x ∷ xs) ys = omega (arith, lens-append xs ys)

place_long : (p : Place) → length (place_bytes p) ≡ 12
place_long p = omega (arith, length-append (to_be_bytes w64 p.at) (to_be_bytes w32 p.len), wide64.len p.at, wide32.len p.len)

table_long : (place_of : List ℕ → Option Place) (children : List (List ℕ)) → length (table place_of children) ≡ 12 * length children
table_long place_of [] = refl
table_long place_of (child ∷ children) =
    let p = unwrap_or (place_of child) no_place in
    omega (arith, length-append (place_bytes p) (table place_of children), place_long p, table_long place_of children)

record_long : (place_of : List ℕ → Option Place) (kept : Kept) → length (record_bytes place_of kept) ≡ record_len kept
record_long place_of kept =
    omega (
      arith,
      length-append (to_be_bytes w32 (length kept.bytes)) (kept.bytes ++ table place_of kept.children),
      length-append kept.bytes (table place_of kept.children),
      wide32.len (length kept.bytes),
      table_long place_of kept.children,
    )

records_long : (place_of : List ℕ → Option Place) (nodes : List Kept) → length (flat_map (record_bytes place_of) nodes) ≡ lens nodes
records_long place_of [] = refl
records_long place_of (x ∷ nodes) =
    omega (arith, length-append (record_bytes place_of x) (flat_map (record_bytes place_of) nodes), record_long place_of x, records_long place_of nodes)

pub pack_lens : (nodes : List Kept) → pack_len nodes ≡ 60 + lens nodes
pack_lens nodes = ap (λ (n : ℕ). 60 + n) (records_long (place_in nodes) nodes)

-- ---- where a search finds a node

by_false : (b : Bool) (o p : Option Place) → b ≡ false → cond b o p ≡ p
by_false b o p e = rw e refl

by_true : (b : Bool) (o p : Option Place) → b ≡ true → cond b o p ≡ o
by_true b o p e = rw e refl

-- a node that is there has a place
pub has_place : (at : ℕ) (nodes : List Kept) (kept : Kept) (key : List ℕ) → Contains nodes kept → digest kept.bytes ≡ key → IsSome (place_from at nodes key)
has_place at [] kept key among same = absurd (none kept among)
has_place at (x ∷ nodes) kept key among same =
    elim (cases_Bool (bytes_eq (digest x.bytes) key)) [
      | inl hit ↦ subst (λ (o : Option Place). IsSome o) (sym (by_true (bytes_eq (digest x.bytes) key) _ _ hit)) refl
      | inr miss ↦ subst (λ (o : Option Place). IsSome o) (sym (by_false (bytes_eq (digest x.bytes) key) _ _ miss))
          (elim (first_or_in_rest x nodes kept among) [
            | inl e ↦ absurd (let hit = same_is (digest x.bytes) key (ap (λ (k : Kept). digest k.bytes) e ∙ same) in cc)
            | inr more ↦ has_place (at + record_len x) nodes kept key more same
          ])
    ]

-- the first is found where the records begin
pub found_first : (at : ℕ) (x : Kept) (nodes : List Kept) → place_from at (x ∷ nodes) (digest x.bytes) ≡ Some (record { at = at; len = record_len x })
found_first at x nodes = by_true (bytes_eq (digest x.bytes) (digest x.bytes)) _ _ (same_is (digest x.bytes) (digest x.bytes) refl)

-- and each that is apart from those before it after them
found : (at : ℕ) (before : List Kept) (x : Kept) (after : List Kept) → AreApart (before ++ x ∷ after)
    → place_from at (before ++ x ∷ after) (digest x.bytes) ≡ Some (record { at = at + lens before; len = record_len x })
found at [] x after apart = found_first at x after ∙ (let e : at ≡ at + 0 = omega arith in ap (λ (n : ℕ). Some (record { at = n; len = record_len x })) e)
found at (y ∷ before) x after apart =
    by_false (bytes_eq (digest y.bytes) (digest x.bytes)) _ _ (other_is _ _ (λ same. middle before apart.0 (sym same)))
    ∙ found (at + record_len y) before x after apart.1
    ∙ (let e : at + record_len y + lens before ≡ at + (record_len y + lens before) = omega arith in ap (λ (n : ℕ). Some (record { at = n; len = record_len x })) e)
  where
    middle : (others : List Kept) → AllByRecursion (λ (other : Kept). digest other.bytes ≢ digest y.bytes) (others ++ x ∷ after) → digest x.bytes ≢ digest y.bytes
    middle [] all = all.0
    middle (z ∷ others) all = middle others all.1

-- so do several in a row
pub are_placed : (at : ℕ) (nodes before mid after : List Kept) → nodes ≡ before ++ (mid ++ after) → AreApart nodes → AreShort mid → at + (lens before + lens mid) ≤ 2 ^ 48
    → ArePlaced (place_from at nodes) (at + lens before) mid
are_placed at nodes before [] after e apart short bound = tt
are_placed at nodes before (x ∷ mid) after e apart short bound =
    let here : place_from at (before ++ x ∷ (mid ++ after)) (digest x.bytes) ≡ Some (record { at = at + lens before; len = record_len x }) =
    found at before x (mid ++ after) (subst AreApart e apart) in
    let moved : lens (before ++ x ∷ []) ≡ lens before + (record_len x + 0) = lens-append before (x ∷ []) in
    let next : at + lens (before ++ x ∷ []) ≡ at + lens before + record_len x = omega (arith, moved) in
    let again : nodes ≡ (before ++ x ∷ []) ++ (mid ++ after) = e ∙ sym (append_assoc before (x ∷ []) (mid ++ after)) in (
      subst (λ (ns : List Kept). place_from at ns (digest x.bytes) ≡ Some (record { at = at + lens before; len = record_len x })) (sym e) here,
      short.0,
      omega (arith, bound),
      subst (λ (n : ℕ). ArePlaced (place_from at nodes) n mid) next (are_placed at nodes (before ++ x ∷ []) mid after again apart short.1 (omega (arith, bound, moved))),
    )

-- ---- rows that are laid out

module _ (kepts : Row → List Kept) where
  pub placed_append : (at : ℕ) (rs ss : List Row) → placed_from kepts at (rs ++ ss) ≡ placed_from kepts at rs ++ placed_from kepts (at + lens (flat_map kepts rs)) ss
  placed_append at [] ss = let e : at ≡ at + 0 = omega arith in ap (λ (n : ℕ). placed_from kepts n ss) e
  placed_append at (r ∷ rs) ss =
      let e : at + lens (kepts r) + lens (flat_map kepts rs) ≡ at + lens (kepts r ++ flat_map kepts rs) = omega (arith, lens-append (kepts r) (flat_map kepts rs)) in
      ap (λ (ps : List PlacedRow). record { row = r; at = at } ∷ ps)
      (placed_append (at + lens (kepts r)) rs ss ∙ ap (λ (n : ℕ). placed_from kepts (at + lens (kepts r)) rs ++ placed_from kepts n ss) e)

  -- a row that is laid out stands after those before it
  pub record StandsAt (at : ℕ) (rs : List Row) (placed : PlacedRow) : Type 0 where
    pub before : List Row
    pub after : List Row
    pub rows : rs ≡ before ++ placed.row ∷ after
    pub at_is : placed.at ≡ at + lens (flat_map kepts before)

  pub stands_at : (at : ℕ) (rs : List Row) (placed : PlacedRow) → Contains (placed_from kepts at rs) placed → StandsAt at rs placed
  stands_at at [] placed among = absurd (none placed among)
  stands_at at (r ∷ rs) placed among =
      elim (first_or_in_rest (record { row = r; at = at }) (placed_from kepts (at + lens (kepts r)) rs) placed among) [
        | inl e ↦ record {
          before = [];
          after = rs;
          rows = ap (λ (q : PlacedRow). q.row ∷ rs) e;
          at_is = (let z : at ≡ at + 0 = omega arith in ap (λ (q : PlacedRow). q.at) (sym e) ∙ z);
        }
        | inr more ↦
            let rest = stands_at (at + lens (kepts r)) rs placed more in
            let there = rest.at_is in
            record {
              before = r ∷ rest.before;
              after = rest.after;
              rows = ap (λ (l : List Row). r ∷ l) rest.rows;
              at_is = omega (arith, there, lens-append (kepts r) (flat_map kepts rest.before));
            }
      ]
