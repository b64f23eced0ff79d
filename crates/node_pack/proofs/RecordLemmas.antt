-- The bytes of places, tables and records, and what is read of them.
use Rattle.std.proofs.Common.{◌≡◌, ◌≤◌, ◌<◌, ◌+◌, ◌^◌, ℕ, List, [], ◌∷◌, ◌++◌, Option, Some, length, get_or, take, drop, refl, sym, ap, subst, ◌∙◌, arith, length-append}
use Rattle.std.specs.List.{AllByRecursion}
use Rattle.std.specs.Prelude.{unwrap_or}
use Rattle.std.proofs.lemmas.List.{take_all, take_at, take_more, drop_at, drop_more, map-append}
use Rattle.std.specs.HashMap.{HashMap}
use Rattle.tree_node.proofs.shared.FieldLemmas.{wide32, wide64}
use Rattle.tree_node.specs.declared.digest.Digest.{Digest}
use Rattle.node_pack.specs.Known.{AreTrue, IsBetween, IsKnown, IsTable}
use Rattle.node_pack.specs.Packs.{Kept, digests_of, no_place, node_in, record_bytes, table}
use Rattle.node_pack.specs.internal.Reading.{table_in}
use Rattle.node_pack.specs.Places.{first_place, place_bytes}
use Rattle.node_pack.specs.declared.place.Place.{Place}
use Rattle.node_pack.proofs.PlaceMaps.{all_and, all_known_stay}
use Rattle.node_pack.proofs.shared.RecordPlaces.{place_long}

-- a place has these parts
place_is : (p : Place) (at len : ℕ) → at ≡ p.at → len ≡ p.len → record { at = at; len = len } ≡ p
place_is p at len e f = rw (e, f) refl

-- a place that was written is read
pub place_again : (p : Place) (rest : List ℕ) → p.at < 2 ^ 64 → p.len < 2 ^ 32 → first_place (place_bytes p ++ rest) ≡ p
place_again p rest far short = place_is p _ _ (wide64.again p.at far) (wide32.again p.len short)

-- what follows it
pub after_place : (p : Place) (rest : List ℕ) → drop 12 (place_bytes p ++ rest) ≡ rest
after_place p rest = drop_at (place_bytes p) rest 12 (place_long p)

-- the node and the table of a record
module _ (place_of : List ℕ → Option Place) (kept : Kept) (short : length kept.bytes < 2 ^ 32) where
  pub node_again : node_in (record_bytes place_of kept) ≡ kept.bytes
  node_again =
      subst (λ (n : ℕ). take n (kept.bytes ++ table place_of kept.children) ≡ kept.bytes) (sym (wide32.again (length kept.bytes) short))
      (take_at kept.bytes (table place_of kept.children) (length kept.bytes) refl)

  pub table_again : table_in (record_bytes place_of kept) ≡ table place_of kept.children
  table_again =
      subst (λ (n : ℕ). drop n (kept.bytes ++ table place_of kept.children) ≡ table place_of kept.children) (sym (wide32.again (length kept.bytes) short))
      (drop_at kept.bytes (table place_of kept.children) (length kept.bytes) refl)

-- The first child of a table, whose place is at its front.
pub record FirstOf (place_of : List ℕ → Option Place) (limit : ℕ) (child : List ℕ) (children : List (List ℕ)) (rest : List ℕ) : Type 0 where
  pub is : place_of child ≡ Some (first_place rest)
  pub near : (first_place rest).at < limit
  pub others : IsTable place_of limit children (drop 12 rest)
  pub long : 12 ≤ length rest

pub first_of : (place_of : List ℕ → Option Place) (limit : ℕ) (child : List ℕ) (children : List (List ℕ)) (rest : List ℕ) → IsTable place_of limit (child ∷ children) rest → FirstOf place_of limit child children rest
first_of place_of limit child children rest is =
    let placed = is.placed.0 in
    let p = placed.place in
    let more = table place_of children in
    let spelled : rest ≡ place_bytes p ++ more = is.spelled ∙ ap (λ (o : Option Place). place_bytes (unwrap_or o no_place) ++ more) placed.is in
    let read : first_place rest ≡ p = ap first_place spelled ∙ place_again p more placed.wide placed.short in
    record {
      is = placed.is ∙ ap (λ (q : Place). Some q) (sym read);
      near = subst (λ (q : Place). q.at < limit) (sym read) placed.near;
      others = record { spelled = ap (λ (b : List ℕ). drop 12 b) spelled ∙ after_place p more; placed = is.placed.1 };
      long = omega (arith, ap length spelled, length-append (place_bytes p) more, place_long p);
    }

-- the same of a list of children, some of which are remembered
pub next_of : {S : Type 0} (place_of : List ℕ → Option Place) (limit : ℕ) (places : HashMap Digest Place S) (children : List Digest) (i : ℕ) (d : Digest) (rest : List ℕ) → i < length children
    → IsBetween place_of limit places (digests_of (take i children)) (digests_of (drop i children)) rest → FirstOf place_of limit (get_or children i d).0 (digests_of (drop (i + 1) children)) rest
next_of place_of limit places children i d rest lt between =
    first_of place_of limit (get_or children i d).0 (digests_of (drop (i + 1) children)) rest (subst (λ (ds : List Digest). IsTable place_of limit (digests_of ds) rest) (drop_more children i d lt) between.table)

-- one more is remembered
pub one_more : {S : Type 0} (place_of : List ℕ → Option Place) (limit : ℕ) (m n : HashMap Digest Place S) (children : List Digest) (i : ℕ) (d : Digest) (rest : List ℕ) → i < length children
    → IsBetween place_of limit m (digests_of (take i children)) (digests_of (drop i children)) rest
    → ((key : List ℕ) → IsKnown m key → IsKnown n key) → IsKnown n (get_or children i d).0 → AreTrue place_of n
    → IsBetween place_of limit n (digests_of (take (i + 1) children)) (digests_of (drop (i + 1) children)) (drop 12 rest)
one_more place_of limit m n children i d rest lt between keeps known trues =
    let first = next_of place_of limit m children i d rest lt between in
    let all = all_and (IsKnown n) (digests_of (take i children)) (get_or children i d).0 (all_known_stay m n keeps (digests_of (take i children)) between.known) known in
    let more : digests_of (take (i + 1) children) ≡ digests_of (take i children) ++ (get_or children i d).0 ∷ [] =
    ap digests_of (take_more children i d lt) ∙ map-append (λ (key : Digest). key.0) (take i children) (get_or children i d ∷ []) in
    record {
      trues = trues;
      known = subst (AllByRecursion (IsKnown n)) (sym more) all;
      table = first.others;
    }

-- all are
pub all_learned : {S : Type 0} (place_of : List ℕ → Option Place) (limit : ℕ) (n : HashMap Digest Place S) (children : List Digest) (i : ℕ) (rest : List ℕ) → length children ≤ i
    → IsBetween place_of limit n (digests_of (take i children)) (digests_of (drop i children)) rest → AllByRecursion (IsKnown n) (digests_of children)
all_learned place_of limit n children i rest le between = subst (λ (ds : List Digest). AllByRecursion (IsKnown n) (digests_of ds)) (take_all i children le) between.known

-- none is at first
pub none_learned : {S : Type 0} (place_of : List ℕ → Option Place) (limit : ℕ) (n : HashMap Digest Place S) (children : List Digest) (bytes : List ℕ) → AreTrue place_of n
    → IsTable place_of limit (digests_of children) bytes → IsBetween place_of limit n (digests_of (take 0 children)) (digests_of (drop 0 children)) bytes
none_learned place_of limit n children bytes trues is = record { trues = trues; known = tt; table = is }
