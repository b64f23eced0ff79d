-- All that stands under a root is a pack.
use Rattle.std.proofs.Common.{◌≡◌, ◌≢◌, ◌<◌, ◌≤◌, ◌+◌, ◌^◌, inl, inr, ℕ, List, [], ◌∷◌, Bool, false, Option, IsSome, arith, length, get_or, refl, sym, ap, subst, ◌∙◌}
use Rattle.std.specs.HashSet.{HashSet}
use Rattle.std.specs.List.{AllByRecursion, Contains, IsDistinct}
use Rattle.std.specs.List.Sorted.{IsPermutation}
use Rattle.std.specs.Str.{bytes_eq}
use Rattle.std.proofs.lemmas.Bool.{cases_Bool}
use Rattle.std.proofs.lemmas.List.{get_or-map, length-map}
use Rattle.std.proofs.lemmas.List.Sorted.{Contains-permutation, IsPermutation-map, IsPermutation-sym}
use Rattle.std.proofs.lemmas.Map.Keys.{IsDistinct-IsPermutation}
use Rattle.std.proofs.lemmas.Slice.Eq.{bytes_eq-Decides}
use Rattle.osm_keys.proofs.shared.Members.{first_or_in_rest, from_map, in_map, none}
use Rattle.tree_node.specs.Digests.{digest}
use Rattle.tree_node.specs.Shelves.{IsClashFree}
use Rattle.tree_node.specs.declared.digest.Digest.{Digest}
use Rattle.tree_node.proofs.shared.TreeLaws.{digest_len}
use Rattle.node_pack.specs.Packs.{AreApart, IsKept, IsPack, Kept, digests_of, pack, pack_len, place_from, place_in, record_len}
use Rattle.node_pack.specs.Reached.{ArePacked, AtRoot, HasKept, IsAsWanted, IsReached, IsUnder, Referred, Refers}
use Rattle.node_pack.specs.declared.gathered.Gathered.{Gathered}
use Rattle.node_pack.specs.declared.place.Place.{Place}
use Rattle.node_pack.specs.declared.role.Wanted.{Wanted}
use Rattle.node_pack.specs.declared.role.Wanted.TheVariants.{Root}
use Rattle.node_pack.specs.internal.Gathering.{AllClosed, AreGathered, HasNode, HasShortNode, IsFound, IsGathered, IsMeasured, IsSeen, IsWhole, kept_of, kepts, wanted_below}
use Rattle.node_pack.proofs.GatherLemmas.{all_of}
use Rattle.node_pack.proofs.LayoutLemmas.{by_false, by_true, other_is, same_is}
use Rattle.node_pack.proofs.RoleLemmas.{children_read, is_at}

-- a node that is there has a place
pub has_place : (at : ℕ) (nodes : List Kept) (kept : Kept) (key : List ℕ) → Contains nodes kept → digest kept.bytes ≡ key → IsSome (place_from at nodes key)
has_place at [] kept key among same = absurd (none kept among)
has_place at (x ∷ nodes) kept key among same =
    elim (cases_Bool (bytes_eq (digest x.bytes) key)) [
      | inl hit ↦ subst (λ (o : Option Place). IsSome o) (sym (by_true (bytes_eq (digest x.bytes) key) _ _ hit)) refl
      | inr miss ↦ subst (λ (o : Option Place). IsSome o) (sym (by_false (bytes_eq (digest x.bytes) key) _ _ miss))
          (elim (first_or_in_rest x nodes kept among) [
            | inl e ↦ absurd (let hit = same_is (digest x.bytes) key (ap (λ (k : Kept). digest k.bytes) e ∙ same) in cc)
            | inr more ↦ has_place (at + record_len x) nodes kept key more same
          ])
    ]

pub node_placed : (nodes : List Gathered) (key : List ℕ) → HasNode nodes key → IsSome (place_in (kepts nodes) key)
node_placed nodes key (node, among, same) = has_place 60 (kepts nodes) (kept_of node) key (in_map kept_of nodes node among) same

-- ---- in another order

same_digest : Kept → Kept → Bool
same_digest a b = bytes_eq (digest a.bytes) (digest b.bytes)

flips : (a b : Kept) → same_digest a b ≡ same_digest b a
unfolding same_digest
flips a b =
    elim (cases_Bool (bytes_eq (digest a.bytes) (digest b.bytes))) [
      | inl hit ↦ hit ∙ sym (same_is (digest b.bytes) (digest a.bytes) (sym ((bytes_eq-Decides (digest a.bytes) (digest b.bytes)).0 hit)))
      | inr miss ↦ miss ∙ sym (other_is (digest b.bytes) (digest a.bytes) (λ same. let hit = same_is (digest a.bytes) (digest b.bytes) (sym same) in Prim.cc))
    ]

to_distinct : (nodes : List Kept) → AreApart nodes → IsDistinct same_digest nodes
unfolding same_digest IsDistinct
to_distinct [] apart = tt
to_distinct (x ∷ nodes) apart = (one nodes apart.0, to_distinct nodes apart.1)
  where
    one : (others : List Kept) → AllByRecursion (λ (other : Kept). digest other.bytes ≢ digest x.bytes) others → AllByRecursion (λ (other : Kept). same_digest x other ≡ false) others
    one [] all = tt
    one (y ∷ others) all = (other_is (digest x.bytes) (digest y.bytes) (λ same. all.0 (sym same)), one others all.1)

from_distinct : (nodes : List Kept) → IsDistinct same_digest nodes → AreApart nodes
unfolding same_digest IsDistinct
from_distinct [] apart = tt
from_distinct (x ∷ nodes) apart = (one nodes apart.0, from_distinct nodes apart.1)
  where
    one : (others : List Kept) → AllByRecursion (λ (other : Kept). same_digest x other ≡ false) others → AllByRecursion (λ (other : Kept). digest other.bytes ≢ digest x.bytes) others
    one [] all = tt
    one (y ∷ others) all = (λ same. absurd (let miss = all.0 in let hit = same_is (digest x.bytes) (digest y.bytes) (sym same) in Prim.cc), one others all.1)

apart_permuted : (xs ys : List Kept) → IsPermutation xs ys → AreApart xs → AreApart ys
apart_permuted xs ys moved apart = from_distinct ys (IsDistinct-IsPermutation same_digest flips xs ys moved (to_distinct xs apart))

module _ (xs ys : List Gathered) (moved : IsPermutation xs ys) where
  has_permuted : (key : List ℕ) → HasNode xs key → HasNode ys key
  has_permuted key (node, among, same) = (node, Contains-permutation xs ys node moved among, same)

  -- what is whole is so in any order
  pub whole_permuted : (held : List ℕ → Type 0) (root : List ℕ) → IsWhole held root xs → IsWhole held root ys
  whole_permuted held root whole =
      let back : (node : Gathered) → Contains ys node → Contains xs node = λ node among. Contains-permutation ys xs node (IsPermutation-sym xs ys moved) among in
      record {
        each = λ node among. whole.each node (back node among);
        closed = λ node among i d lt. (
          has_permuted (get_or node.children.items i d).0 (whole.closed node (back node among) i d lt).0,
          (whole.closed node (back node among) i d lt).1,
        );
        apart = apart_permuted (kepts xs) (kepts ys) (IsPermutation-map kept_of xs ys moved) whole.apart;
        rooted = has_permuted root whole.rooted;
        root_found = whole.root_found;
      }

-- what was gathered is whole once the children of each are
pub whole_of : {S : Type 0} (held : List ℕ → Type 0) (root : List ℕ) (seen : HashSet Digest S) (nodes : List Gathered) → AreGathered held root seen nodes → AllClosed held (IsSeen seen) nodes
    → IsSeen seen root → IsFound held Root root → IsWhole held root nodes
whole_of held root seen nodes are closed rooted found = record {
  each = are.each;
  closed = λ node among i d lt. (are.there (get_or node.children.items i d).0 (closed node among i d lt).0, (closed node among i d lt).1);
  apart = are.apart;
  rooted = are.there root rooted;
  root_found = found;
}

-- ---- its pack

module _ (held : List ℕ → Type 0) (root : List ℕ) (nodes : List Gathered) (whole : IsWhole held root nodes) where
  pub all_measured : AllByRecursion IsMeasured nodes
  all_measured = all_of IsMeasured nodes (λ node among. (whole.each node among).measured)

  pub all_short : AllByRecursion HasShortNode nodes
  all_short = all_of HasShortNode nodes (λ node among. let short = (whole.each node among).short in omega (arith, short))

  reached_of : (node : Gathered) → IsGathered held root node → IsReached held root (kept_of node)
  reached_of node is = record {
    is_held = is.is_held;
    children = children_read node.bytes.now node.role (digests_of node.children.items) is.read;
    wanted = is.wanted;
    as_wanted = is.as_wanted;
    under = is.under;
  }

  pub all_reached : AllByRecursion (IsReached held root) (kepts nodes)
  all_reached = all_of (IsReached held root) (kepts nodes) (λ kept among.
      let (node, is_in, e) = from_map kept_of nodes kept among in
      subst (IsReached held root) (sym e) (reached_of node (whole.each node is_in)))

  kept_is : (node : Gathered) → Contains nodes node → IsKept (kepts nodes) (kept_of node)
  kept_is node among = record {
    children = (reached_of node (whole.each node among)).children;
    closed = all_of (λ (child : List ℕ). IsSome (place_in (kepts nodes) child)) (digests_of node.children.items) (λ child is_child.
        let (key, is_in, e) = from_map (λ (k : Digest). k.0) node.children.items child is_child in
        let there = (whole.closed node among is_in.0 key is_in.1).0 in
        subst (λ (c : List ℕ). IsSome (place_in (kepts nodes) c)) (sym e)
        (subst (λ (k : Digest). IsSome (place_in (kepts nodes) k.0)) is_in.2 (node_placed nodes _ there)));
    short = (whole.each node among).short;
  }

  wide : length root ≡ 32
  wide = let (node, among, same) = whole.rooted in ap length (sym same) ∙ digest_len node.bytes.now

  pub is_pack_of : pack_len (kepts nodes) ≤ 2 ^ 48 → IsPack (pack root (kepts nodes)) root (kepts nodes)
  is_pack_of short = record {
    bytes = refl;
    wide = wide;
    kept = all_of (IsKept (kepts nodes)) (kepts nodes) (λ kept among.
        let (node, is_in, e) = from_map kept_of nodes kept among in
        subst (IsKept (kepts nodes)) (sym e) (kept_is node is_in));
    apart = whole.apart;
    rooted = node_placed nodes root whole.rooted;
    short = short;
  }

  -- a node that is found is as it was found
  found_kept : IsClashFree held → (wanted : Wanted) (key : List ℕ) → HasNode nodes key → IsFound held wanted key → HasKept (kepts nodes) wanted key
  found_kept clash_free wanted key (node, among, same) found =
      let one : found.bytes ≡ node.bytes.now = clash_free found.bytes node.bytes.now found.is_held (whole.each node among).is_held (found.has_digest ∙ sym same) in
      record {
        kept = kept_of node;
        is_in = in_map kept_of nodes node among;
        has_digest = same;
        as_wanted = subst (IsAsWanted wanted) one found.as_wanted;
      }

  all_kept : IsClashFree held → (wanted : Wanted) (key : List ℕ) → IsUnder held root wanted key → HasKept (kepts nodes) wanted key
  all_kept clash_free wanted key AtRoot = found_kept clash_free Root root whole.rooted whole.root_found
  all_kept clash_free wanted key (Referred as_what parent what name is as_wanted under refers) =
      let above = all_kept clash_free as_what (digest parent) under in
      let (node, among, e) = from_map kept_of nodes above.kept above.is_in in
      let digest_is : digest parent ≡ digest node.bytes.now = sym above.has_digest ∙ ap (λ (k : Kept). digest k.bytes) e in
      let one : parent ≡ node.bytes.now = clash_free parent node.bytes.now is (whole.each node among).is_held digest_is in
      let at = is_at node.bytes.now node.role (digests_of node.children.items) (whole.each node among).read what name (subst (λ (b : List ℕ). Refers b what name) one refers) in
      let closed = whole.closed node among at.place (record { 0 = [] }) (inside node.children.items at.place at.inside) in
      let child : (get_or node.children.items at.place (record { 0 = [] })).0 ≡ name = sym (get_or-map (λ (k : Digest). k.0) node.children.items at.place (record { 0 = [] }) [] (inside node.children.items at.place at.inside)) ∙ at.same in
      found_kept clash_free what name (subst (HasNode nodes) child closed.0)
      (subst (λ (w : Wanted). IsFound held w name) (sym at.wanted_is) (subst (IsFound held (wanted_below node.role at.place)) child closed.1))
    where
      inside : (keys : List Digest) (i : ℕ) → i < length (digests_of keys) → i < length keys
      inside keys i lt = omega (arith, lt, length-map keys (λ (k : Digest). k.0))

  pub are_packed : IsClashFree held → pack_len (kepts nodes) ≤ 2 ^ 48 → ArePacked held root (kepts nodes)
  are_packed clash_free short = record { is_pack = is_pack_of short; reached = all_reached; whole = all_kept clash_free }
