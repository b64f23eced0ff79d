-- The parts that a recorder makes of the nodes that it gave.
use Rattle.std.proofs.Common.{◌≡◌, ℕ, suc, ◌<◌, List, [], ◌∷◌, ◌++◌, map, length, get_or, Option, Some, None, false, refl, sym, ap, subst, ◌∙◌, arith}
use Rattle.std.specs.Borrow.{Bor}
use Rattle.std.specs.Cmp.{IsEquivalence}
use Rattle.std.specs.HashMap.{HashMap, IsUnique, get}
use Rattle.std.specs.List.{Contains, IsDistinct}
use Rattle.std.specs.List.Sorted.{IsPermutation, IsSortedByKey}
use Rattle.std.specs.Map.{keys_of}
use Rattle.std.specs.Option.{option_map}
use Rattle.std.specs.Ordering.{is_lt, nat_cmp}
use Rattle.std.specs.Cmp.Lexicographic.{slice_cmp}
use Rattle.std.specs.Str.{bytes_eq}
use Rattle.std.specs.declared.cmp.Ordering.{Ordering}
use Rattle.std.specs.declared.cmp.Ordering.TheVariants.{Less, Equal, Greater}
use Rattle.std.proofs.lemmas.Cmp.{nat_list_cmp_total, nat_list_eq_equiv}
use Rattle.std.proofs.lemmas.List.{get_or-map, append-nil}
use Rattle.std.proofs.lemmas.List.Sorted.{Contains-permutation, IsPermutation-map, IsPermutation-sym, ranks_by, sorted_far}
use Rattle.std.proofs.lemmas.Map.Keys.{IsDistinct-IsPermutation, apart_from_distinct}
use Rattle.std.proofs.lemmas.Map.Views.{Contains-from_lookup, lookup-from_Contains}
use Rattle.std.proofs.lemmas.Slice.Eq.{bytes_eq-Decides}
use Rattle.tree_node.specs.Digests.{digest}
use Rattle.tree_node.specs.Keys.{digest_eq, key_of, lent_at, StandsIn}
use Rattle.tree_node.specs.Order.{order, IsBelow}
use Rattle.tree_node.specs.Parts.{node_of, HaveNode, HaveRisingDigests}
use Rattle.tree_node.specs.internal.OrderLemmas.{order_above, order_same}
use Rattle.tree_node.specs.internal.Pairs.{HaveDistinctDigests, lent_of, pair_of, part_key}
use Rattle.tree_node.specs.Shelves.{SameNodes}
use Rattle.tree_node.specs.declared.digest.Digest.{Digest}
use Rattle.tree_node.specs.declared.recorded_node.RecordedNode.{RecordedNode}
use Rattle.tree_node.specs.declared.part.Part.{Part}
use Rattle.tree_node.proofs.BagLemmas.{element_at}
use Rattle.tree_node.proofs.shared.MapLemmas.{differ, eq_is}

-- a list keeps its length
length_same : {X Y : Type 0} (f : X → Y) (xs : List X) → length (map f xs) ≡ length xs
length_same f [] = refl
length_same f (x ∷ xs) = ap suc (length_same f xs)

-- equality of digests is an equivalence
digest_equiv : IsEquivalence digest_eq
digest_equiv = record {
  refl = λ x. nat_list_eq_equiv.refl x.0;
  symm = λ x y. nat_list_eq_equiv.symm x.0 y.0;
  congr = λ x y z. nat_list_eq_equiv.congr x.0 y.0 z.0;
}

-- what isn't above, and differs, is below
rises : (a b : List ℕ) → is_lt (order b a) ≡ false → bytes_eq a b ≡ false → IsBelow a b
rises a b up apart = by (order a b) refl
  where
    by : (o : Ordering) → order a b ≡ o → IsBelow a b
    by Less e = e
    by Equal e = absurd (differ (bytes_eq a b) ((bytes_eq-Decides a b).1 (order_same a b e)) apart)
    by Greater e = absurd (differ (is_lt (order b a)) (ap is_lt (order_above a b e)) up)

-- parts with distinct digests, once sorted, have rising digests
pub parts_rise : (parts sorted : List Part) → IsPermutation parts sorted → HaveDistinctDigests parts
    → IsSortedByKey part_key (λ (a b : Digest). slice_cmp nat_cmp a.0 b.0) sorted → HaveRisingDigests sorted
parts_rise parts sorted moved once up i j d lt ltj =
    let distinct = IsDistinct-IsPermutation digest_eq digest_equiv.symm (map part_key parts) (map part_key sorted) (IsPermutation-map part_key parts sorted moved) once in
    let ltk : j < length (map part_key sorted) = omega (arith, length_same part_key sorted) in
    let apart = apart_from_distinct digest_eq (map part_key sorted) i j (part_key d) distinct lt ltk in
    let ati = get_or-map part_key sorted i d (part_key d) (omega arith) in
    let atj = get_or-map part_key sorted j d (part_key d) ltj in
    let a = get_or sorted i d in
    let b = get_or sorted j d in
    rises (digest (node_of a)) (digest (node_of b))
    (sorted_far (λ (x y : Part). is_lt (slice_cmp nat_cmp (digest (node_of x)) (digest (node_of y)))) (ranks_by nat_list_cmp_total (λ (p : Part). digest (node_of p))) sorted up i j d (omega arith) ltj)
    (sym (ap (λ (q : Digest). digest_eq q (get_or (map part_key sorted) j (part_key d))) ati ∙ ap (λ (q : Digest). digest_eq (part_key a) q) atj) ∙ apart)

-- parts hold the same nodes in another order
keeps_node : (parts others : List Part) → IsPermutation parts others → (x : List ℕ) → HaveNode parts x → HaveNode others x
keeps_node parts others moved x (k, p, lt, is, e) = let (j, ltj, at) = Contains-permutation parts others p moved (k, lt, is) in (j, p, ltj, at, e)

-- they hold the same nodes as a set, if they did before
pub same_given : (parts sorted : List Part) → IsPermutation parts sorted → (used : List ℕ → Type 0) → SameNodes used (HaveNode parts) → SameNodes used (HaveNode sorted)
same_given parts sorted moved used same x = (
  λ h. (same x).0 (keeps_node sorted parts (IsPermutation-sym parts sorted moved) x h),
  λ h. keeps_node parts sorted moved x ((same x).1 h),
)

-- the keys of parts as entries are those of their nodes
keys_are : (parts : List Part) → keys_of (map pair_of parts) ≡ map part_key parts
keys_are [] = refl
keys_are (p ∷ ps) =
    ap (λ (k : List ℕ). record { 0 = k } ∷ keys_of (map pair_of ps)) p.own ∙ ap (λ (ks : List Digest). part_key p ∷ ks) (keys_are ps)

-- entries have the same keys without what was read
keys_lent : (entries : List (Digest × RecordedNode)) → keys_of (map lent_of entries) ≡ keys_of entries
keys_lent [] = refl
keys_lent (e ∷ es) = ap (λ (ks : List Digest). e.0 ∷ ks) (keys_lent es)

module _ {S : Type 0} (given : HashMap Digest RecordedNode S) (unique : IsUnique digest_eq given) where
  -- an entry at a place is what the map has under its key
  lent_there : (k : ℕ) (key : Digest) (node : Bor (List ℕ)) → k < length given.entries → get_or (map lent_of given.entries) k (key, node) ≡ (key, node) → lent_at given key ≡ Some node.now
  lent_there k key node lt at =
      let (entry, is) = element_at given.entries k lt in
      let there : get digest_eq given entry.0 ≡ Some entry.1 = lookup-from_Contains digest_equiv entry.0 entry.1 given.entries unique (k, lt, is) in
      let pair : lent_of entry ≡ (key, node) = sym (get_or-map lent_of given.entries k entry (key, node) lt ∙ ap lent_of is) ∙ at in
      ap (lent_at given) (sym (ap (λ (q : Digest × Bor (List ℕ)). q.0) pair)) ∙ ap (option_map (λ (g : RecordedNode). g.bytes.now)) there
      ∙ ap (λ (q : Digest × Bor (List ℕ)). Some q.1.now) pair

  module _ (parts : List Part) (are : map pair_of parts ≡ map lent_of given.entries) where
    -- no two parts have one digest
    pub parts_distinct : HaveDistinctDigests parts
    parts_distinct =
        subst (λ (ks : List Digest). IsDistinct digest_eq ks)
        (sym (ap (λ (es : List (Digest × Bor (List ℕ))). keys_of es) are ∙ keys_lent given.entries) ∙ keys_are parts) unique

    as_many : length parts ≡ length given.entries
    as_many = sym (length_same pair_of parts) ∙ ap (length {A = Digest × Bor (List ℕ)}) are ∙ length_same lent_of given.entries

    -- what a part holds was given
    held_given : (x : List ℕ) → HaveNode parts x → StandsIn (lent_at given) x
    held_given x (k, p, lt, is, e) =
        let at : get_or (map lent_of given.entries) k (pair_of p) ≡ pair_of p = ap (λ (es : List (Digest × Bor (List ℕ))). get_or es k (pair_of p)) (sym are) ∙ get_or-map pair_of parts k p (pair_of p) lt ∙ ap pair_of is in
        let there : lent_at given p.digest ≡ Some p.bytes.now = lent_there k p.digest p.bytes (omega (arith, as_many)) at in
        let key : p.digest ≡ key_of x = ap (λ (d : List ℕ). record { 0 = d }) (p.own ∙ ap digest e) in
        ap (lent_at given) (sym key) ∙ there ∙ ap (λ (n : List ℕ). Some n) e

    -- what was given, a part holds
    some_given : (x : List ℕ) (o : Option RecordedNode) → get digest_eq given (key_of x) ≡ o → option_map (λ (g : RecordedNode). g.bytes.now) o ≡ Some x → HaveNode parts x
    some_given x None is e = absurd cc
    some_given x (Some g) is e =
        let (k, lt, at) = Contains-from_lookup eq_is (key_of x) g given.entries is in
        let ltp : k < length parts = omega (arith, as_many) in
        let part = element_at parts k ltp in
        let lent : Digest × Bor (List ℕ) = (key_of x, g.bytes) in
        let pair : pair_of part.0 ≡ lent = sym (get_or-map pair_of parts k part.0 lent ltp ∙ ap pair_of part.1) ∙ ap (λ (es : List (Digest × Bor (List ℕ))). get_or es k lent) are
        ∙ get_or-map lent_of given.entries k (key_of x, g) lent lt ∙ ap lent_of at in
        let same : node_of part.0 ≡ x = ap (λ (q : Digest × Bor (List ℕ)). q.1.now) pair ∙ cc in
        (k, part.0, ltp, part.1, same)

    -- the parts hold exactly what was given
    pub parts_given : SameNodes (StandsIn (lent_at given)) (HaveNode parts)
    parts_given x = (held_given x, some_given x (get digest_eq given (key_of x)) refl)

-- a list has what stands between its parts
between : {X : Type 0} (front : List X) (x : X) (back : List X) → Contains (front ++ x ∷ back) x
between [] x back = (0, omega arith, refl)
between (y ∷ front) x back = let (k, lt, at) = between front x back in (suc k, omega arith, at)

-- a key and a node that are still to come stand in the map so
pub to_come : {S : Type 0} (given : HashMap Digest RecordedNode S) (front : List (Digest × Bor (List ℕ))) (left back : List (Digest × RecordedNode)) (key : Digest) (node : RecordedNode)
    → IsUnique digest_eq given → front ++ map lent_of left ≡ map lent_of given.entries → left ≡ (key, node) ∷ back → lent_at given key ≡ Some node.bytes.now
to_come given front left back key node unique are is =
    let (k, lt, at) = subst (λ (es : List (Digest × Bor (List ℕ))). Contains es (key, node.bytes)) (sym (ap (λ (l : List (Digest × RecordedNode)). front ++ map lent_of l) is) ∙ are) (between front (key, node.bytes) (map lent_of back)) in
    lent_there given unique k key node.bytes (omega (arith, length_same lent_of given.entries)) at

-- the last part as an entry stands before those still to come
moved : (parts : List Part) (p : Part) (left : List (Digest × Bor (List ℕ))) → map pair_of (parts ++ p ∷ []) ++ left ≡ map pair_of parts ++ pair_of p ∷ left
moved [] p left = refl
moved (q ∷ qs) p left = ap (λ (es : List (Digest × Bor (List ℕ))). pair_of q ∷ es) (moved qs p left)

-- one part more, and one entry less to come
pub one_more : (parts now : List Part) (p : Part) (entry : Digest × Bor (List ℕ)) (left after all : List (Digest × Bor (List ℕ)))
    → now ≡ parts ++ p ∷ [] → pair_of p ≡ entry → left ≡ entry ∷ after → map pair_of parts ++ left ≡ all → map pair_of now ++ after ≡ all
one_more parts now p entry left after all pushed pair is so_far =
    ap (λ (ps : List Part). map pair_of ps ++ after) pushed ∙ moved parts p after
    ∙ ap (λ (e : Digest × Bor (List ℕ)). map pair_of parts ++ e ∷ after) pair
    ∙ ap (λ (l : List (Digest × Bor (List ℕ))). map pair_of parts ++ l) (sym is) ∙ so_far

-- nothing is to come
pub none_more : (parts : List Part) (left all : List (Digest × Bor (List ℕ))) → left ≡ [] → map pair_of parts ++ left ≡ all → map pair_of parts ≡ all
none_more parts left all is so_far = sym (append-nil (map pair_of parts)) ∙ ap (λ (l : List (Digest × Bor (List ℕ))). map pair_of parts ++ l) (sym is) ∙ so_far
