-- Digests that are pushed and sorted.
use Rattle.std.proofs.Common.{◌≡◌, ◌≢◌, ◌<◌, ◌+◌, ℕ, get_or, take, length, List, [], ◌∷◌, ◌++◌, false, None, Option, Some, append-nil, append_assoc, inl, inr, refl, sym, ap, subst, ◌∙◌}
use Rattle.std.specs.List.{AllByRecursion, IsDistinct, flat_map}
use Rattle.std.specs.List.Sorted.{IsPermutation}
use Rattle.std.specs.Prelude.{◌↔◌}
use Rattle.std.specs.Str.{bytes_eq}
use Rattle.std.specs.Cmp.Lexicographic.{slice_cmp}
use Rattle.std.specs.Ordering.{is_lt, nat_cmp}
use Rattle.std.specs.declared.cmp.Ordering.{Ordering}
use Rattle.std.specs.declared.cmp.Ordering.TheVariants.{Less, Equal, Greater}
use Rattle.std.proofs.lemmas.Bool.{cases_Bool}
use Rattle.std.proofs.lemmas.Grind.{flat_map-append}
use Rattle.std.proofs.lemmas.List.{map-append, take_more}
use Rattle.std.proofs.lemmas.List.Sorted.{IsPermutation-map, IsPermutation-sym}
use Rattle.std.proofs.lemmas.Map.Keys.{IsDistinct-IsPermutation}
use Rattle.std.proofs.lemmas.Slice.Eq.{bytes_eq-Decides}
use Rattle.external_sort.specs.Records.{Entry, Rises, is_below}
use Rattle.osm_keys.specs.Publications.{Publication, root_of}
use Rattle.tree_node.specs.Digests.{digest}
use Rattle.tree_node.specs.Nodes.{Node, spelling}
use Rattle.tree_node.specs.declared.digest.Digest.{Digest}
use Rattle.tree_node.specs.internal.OrderLemmas.{order_above, order_same}
use Rattle.tree_node.specs.Order.{order}
use Rattle.node_pack.specs.Packs.{Kept}
use Rattle.pack_assembly.specs.declared.row.Row.{Row}
use Rattle.pack_assembly.specs.internal.Order.{all_kepts, digests_of, kepts_in, kepts_of, nodes_in, rows_in}
use Rattle.pack_assembly.specs.internal.Keys.{NoneTwice, key_entries, key_entry, keys_in, listed}
use Rattle.pack_assembly.proofs.ApartLemmas.{keys_of_kepts, other_is, same_is}

-- ---- pushing

-- what held some entries holds them and these keys
abbrev pub IsPushed : (List Entry → Type 0) → (List Entry → Type 0) → List (List ℕ) → Type 0
IsPushed was now keys = (records : List Entry) → was records → now (records ++ key_entries keys)

pub pushed_none : (was : List Entry → Type 0) → IsPushed was was []
pushed_none was records held = subst was (sym (append-nil records)) held

pub pushed_more : (was mid now : List Entry → Type 0) (keys more : List (List ℕ)) → IsPushed was mid keys → IsPushed mid now more → IsPushed was now (keys ++ more)
pushed_more was mid now keys more first second records held =
    subst now (append_assoc records (key_entries keys) (key_entries more) ∙ ap (λ (l : List Entry). records ++ l) (sym (map-append key_entry keys more)))
    (second (records ++ key_entries keys) (first records held))

-- ---- rising keys

keys_below : (e : Entry) (es : List Entry) (f : Entry) → is_below f e ≡ false → AllByRecursion (λ (g : Entry). is_below g f ≡ false) es → f.key ≢ e.key → AllByRecursion (λ (key : List ℕ). bytes_eq e.key key ≡ false) (keys_in es)
keys_below e [] f first later differ = tt
keys_below e (g ∷ es) f first later differ =
    (other_is e.key g.key (λ same. differ (both_ways f.key e.key first (subst (λ (k : List ℕ). is_lt (slice_cmp nat_cmp k f.key) ≡ false) (sym same) later.0))), keys_below e es f first later.1 differ)
  where
    both_ways : (a b : List ℕ) → is_lt (slice_cmp nat_cmp a b) ≡ false → is_lt (slice_cmp nat_cmp b a) ≡ false → a ≡ b
    both_ways a b first second = by (order a b) refl
      where
        by : (o : Ordering) → order a b ≡ o → a ≡ b
        by Less is = absurd (let same : slice_cmp nat_cmp a b ≡ Less = is in Prim.cc)
        by Equal is = order_same a b is
        by Greater is = absurd (let less : slice_cmp nat_cmp b a ≡ Less = order_above a b is in Prim.cc)

pub rising_distinct : (es : List Entry) → Rises es → NoneTwice (keys_in es) → IsDistinct bytes_eq (keys_in es)
unfolding IsDistinct
rising_distinct [] rises differ = tt
rising_distinct (e ∷ []) rises differ = (tt, tt)
rising_distinct (e ∷ f ∷ es) rises differ =
    ((other_is e.key f.key (λ same. differ.0 (sym same)), keys_below e es f rises.0.0 rises.1.0 differ.0), rising_distinct (f ∷ es) rises.1 differ.1)

pub distinct_differ : (keys : List (List ℕ)) → IsDistinct bytes_eq keys → NoneTwice keys
unfolding IsDistinct
distinct_differ [] distinct = tt
distinct_differ (key ∷ []) distinct = tt
distinct_differ (key ∷ next ∷ keys) distinct =
    ((λ same. absurd (let miss = distinct.0.0 in let hit = same_is key next (sym same) in Prim.cc)), distinct_differ (next ∷ keys) distinct.1)

flips : (a b : List ℕ) → bytes_eq a b ≡ bytes_eq b a
flips a b =
    elim (cases_Bool (bytes_eq a b)) [
      | inl hit ↦ hit ∙ sym (same_is b a (sym ((bytes_eq-Decides a b).0 hit)))
      | inr miss ↦ miss ∙ sym (other_is b a (λ same. let hit = same_is a b (sym same) in Prim.cc))
    ]

-- so whether keys are distinct shows once they are sorted
module _ (records given : List Entry) (moved : IsPermutation records given) where
  pub distinct_back : Rises given → NoneTwice (keys_in given) → IsDistinct bytes_eq (keys_in records)
  distinct_back rises differ =
      IsDistinct-IsPermutation bytes_eq flips (keys_in given) (keys_in records) (IsPermutation-sym (keys_in records) (keys_in given) (IsPermutation-map (λ (e : Entry). e.key) records given moved))
      (rising_distinct given rises differ)

  pub distinct_on : IsDistinct bytes_eq (keys_in records) → NoneTwice (keys_in given)
  distinct_on distinct =
      distinct_differ (keys_in given) (IsDistinct-IsPermutation bytes_eq flips (keys_in records) (keys_in given) (IsPermutation-map (λ (e : Entry). e.key) records given moved) distinct)

-- ---- one after the other

-- the keys so far say nothing, and with those that are left they are as before
abbrev pub IsAsBefore : List Entry → Option Digest → List Entry → Type 0
IsAsBefore given before left = NoneTwice (keys_in given) ↔ NoneTwice (listed before ++ keys_in left)

pub none_yet : (given : List Entry) → IsAsBefore given None given
none_yet given = (λ h. h, λ h. h)

pub goes_on : (given : List Entry) (before : Option Digest) (key : Digest) (e : Entry) (left : List Entry) → key.0 ≡ e.key → (before ≡ Some key → ⊥) → IsAsBefore given before (e ∷ left) → IsAsBefore given (Some key) left
goes_on given None key e left same differ as_before =
    subst (λ (k : List ℕ). NoneTwice (keys_in given) ↔ NoneTwice (k ∷ keys_in left)) (sym same) as_before
goes_on given (Some last) key e left same differ as_before =
    let other : e.key ≢ last.0 = λ equal. differ (ap (λ (k : List ℕ). Some (record { 0 = k })) (sym equal ∙ sym same)) in
    subst (λ (k : List ℕ). NoneTwice (keys_in given) ↔ NoneTwice (k ∷ keys_in left)) (sym same) (λ h. (as_before.0 h).1, λ h. as_before.1 (other, h))

pub twice : (given : List Entry) (before : Option Digest) (key : Digest) (e : Entry) (left : List Entry) → key.0 ≡ e.key → before ≡ Some key → IsAsBefore given before (e ∷ left) → NoneTwice (keys_in given) → ⊥
twice given None key e left same is as_before none = absurd (Prim.cc)
twice given (Some last) key e left same is as_before none =
    let last_is : last.0 ≡ key.0 = by last key is in
    (as_before.0 none).0 (sym same ∙ sym last_is)
  where
    by : (a b : Digest) → Some a ≡ Some b → a.0 ≡ b.0
    by a b e = let f : a ≡ b = Prim.cc in ap (λ (d : Digest). d.0) f

pub all_differ : (given : List Entry) (before : Option Digest) → IsAsBefore given before [] → NoneTwice (keys_in given)
all_differ given None as_before = as_before.1 tt
all_differ given (Some last) as_before = as_before.1 tt

-- ---- keys of rows

pub pushed_row : (p : Publication) (was mid now : List Entry → Type 0) (rows : List Row) (i : ℕ) (d : Row) → i < length rows
    → IsPushed was mid (flat_map (λ (row : Row). digests_of (nodes_in p row)) (take i rows)) → IsPushed mid now (digests_of (nodes_in p (get_or rows i d)))
    → IsPushed was now (flat_map (λ (row : Row). digests_of (nodes_in p row)) (take (i + 1) rows))
pushed_row p was mid now rows i d lt first second records held =
    let keys = λ (row : Row). digests_of (nodes_in p row) in
    let both : flat_map keys (take i rows) ++ keys (get_or rows i d) ≡ flat_map keys (take (i + 1) rows) =
    sym (ap (flat_map keys) (take_more rows i d lt) ∙ flat_map-append keys (take i rows) (get_or rows i d ∷ []) ∙ ap (λ (l : List (List ℕ)). flat_map keys (take i rows) ++ l) (append-nil (keys (get_or rows i d)))) in
    subst (λ (ks : List (List ℕ)). now (records ++ key_entries ks)) both (pushed_more was mid now (flat_map keys (take i rows)) (keys (get_or rows i d)) first second records held)

keys_again : (keys : List (List ℕ)) → keys_in (key_entries keys) ≡ keys
keys_again [] = refl
keys_again (key ∷ keys) = ap (λ (l : List (List ℕ)). key ∷ l) (keys_again keys)

kept_keys : (nodes : List Node) → keys_of_kepts (kepts_of nodes) ≡ digests_of nodes
kept_keys [] = refl
kept_keys (n ∷ nodes) = ap (λ (l : List (List ℕ)). digest (spelling n) ∷ l) (kept_keys nodes)

row_keys : (p : Publication) (rows : List Row) → flat_map (λ (row : Row). digests_of (nodes_in p row)) rows ≡ keys_of_kepts (flat_map (kepts_in p) rows)
row_keys p [] = refl
row_keys p (r ∷ rows) =
    ap (λ (l : List (List ℕ)). digests_of (nodes_in p r) ++ l) (row_keys p rows)
    ∙ ap (λ (l : List (List ℕ)). l ++ keys_of_kepts (flat_map (kepts_in p) rows)) (sym (kept_keys (nodes_in p r)))
    ∙ sym (map-append (λ (k : Kept). digest k.bytes) (kepts_in p r) (flat_map (kepts_in p) rows))

pub keys_are : (p : Publication) (root : List ℕ) (rows : List Row) → root ≡ root_of p → rows ≡ rows_in p
    → keys_in (key_entries (root ∷ flat_map (λ (row : Row). digests_of (nodes_in p row)) rows)) ≡ keys_of_kepts (all_kepts p)
keys_are p root rows is_root are_rows =
    keys_again (root ∷ flat_map (λ (row : Row). digests_of (nodes_in p row)) rows)
    ∙ ap (λ (k : List ℕ). k ∷ flat_map (λ (row : Row). digests_of (nodes_in p row)) rows) is_root
    ∙ ap (λ (l : List (List ℕ)). root_of p ∷ l) (row_keys p rows ∙ ap (λ (rs : List Row). keys_of_kepts (flat_map (kepts_in p) rs)) are_rows)
