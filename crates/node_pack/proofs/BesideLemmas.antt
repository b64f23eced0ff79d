-- Nodes that are laid out beside others.
use Rattle.std.proofs.Common.{◌≡◌, ◌≢◌, ◌≤◌, ◌<◌, ◌+◌, ◌-◌, ◌*◌, ◌^◌, ℕ, List, [], ◌∷◌, ◌++◌, Bool, true, false, cond, Option, Some, None, IsSome, length, get_or, take, map, refl, sym, ap, subst, ◌∙◌, arith, inl}
use Rattle.std.specs.HashMap.{HashMap, Updates, get}
use Rattle.std.specs.Int.{to_be_bytes, w32}
use Rattle.std.specs.List.{AllByRecursion, Contains, flat_map}
use Rattle.std.specs.Option.{option_and_then, option_or}
use Rattle.std.specs.Prelude.{is_some, nat_lt, unwrap_or}
use Rattle.std.proofs.lemmas.Bool.{false≢true, ltb-true}
use Rattle.std.proofs.lemmas.List.{map-append, take_all, take_more}
use Rattle.std.proofs.lemmas.List.Elements.{All-contains_itself}
use Rattle.osm_keys.proofs.shared.Members.{in_map}
use Rattle.tree_node.specs.Digests.{digest}
use Rattle.tree_node.specs.Keys.{digest_eq}
use Rattle.tree_node.specs.declared.digest.Digest.{Digest}
use Rattle.tree_node.specs.declared.new_node.NewNode.{NewNode}
use Rattle.tree_node.proofs.shared.MapLemmas.{eq_is}
use Rattle.tree_node.proofs.shared.TreeLaws.{digest_len}
use Rattle.node_pack.specs.Known.{IsKnown, IsPlaced, key_with}
use Rattle.node_pack.specs.Packs.{AreApart, Kept, digests_of, no_place, pack_len, place_from, place_in, record_bytes, record_len}
use Rattle.node_pack.specs.Reached.{IsUnfit}
use Rattle.node_pack.specs.declared.gathered.Gathered.{Gathered}
use Rattle.node_pack.specs.declared.header.Header.{Header}
use Rattle.node_pack.specs.declared.place.Place.{Place}
use Rattle.node_pack.specs.declared.write_fault.WriteFault.{WriteFault}
use Rattle.node_pack.specs.declared.write_fault.WriteFault.TheVariants as faults
use Rattle.node_pack.specs.internal.Gathering.{IsLayoutFault, kept_of, kepts, place_by}
use Rattle.node_pack.specs.Additions.{AreEachOnce, AreNew, IsWithoutChild, bytes_of, if_before}
use Rattle.node_pack.specs.Further.{IsAdded, IsFurther, first_at, further, further_header, further_len, place_beside}
use Rattle.node_pack.specs.internal.Laying.{AreEarlier, AreFit, ArePut, HasPlaces, IsBesideFault, IsFit, IsLeft, IsLeftIn, IsNewIn, IsOwn, IsPutFault, IsReadFault}
use Rattle.node_pack.proofs.PlaceMaps.{all_and}
use Rattle.node_pack.proofs.shared.FurtherPlaces.{is_laid, table_same}
use Rattle.node_pack.proofs.shared.RecordPlaces.{of_each, records_long}

some_is : (a b : Place) → Some a ≡ Some b → a ≡ b
some_is a b e = Prim.cc

-- ---- lists

pub all_more : {X : Type 0} (P : X → Type 0) (xs : List X) (i : ℕ) (d : X) → i < length xs → AllByRecursion P (take i xs) → P (get_or xs i d) → AllByRecursion P (take (i + 1) xs)
all_more P xs i d lt so_far one = subst (AllByRecursion P) (sym (take_more xs i d lt)) (all_and P (take i xs) (get_or xs i d) so_far one)

pub all_keep : {X : Type 0} (P Q : X → Type 0) → ((x : X) → P x → Q x) → (xs : List X) → AllByRecursion P xs → AllByRecursion Q xs
all_keep P Q keep [] all = tt
all_keep P Q keep (x ∷ xs) all = (keep x all.0, all_keep P Q keep xs all.1)

pub all_map : {X Y : Type 0} (P : Y → Type 0) (f : X → Y) (xs : List X) → AllByRecursion (λ (x : X). P (f x)) xs → AllByRecursion P (map f xs)
all_map P f [] all = tt
all_map P f (x ∷ xs) all = (all.0, all_map P f xs all.1)

pub from_map : {X Y : Type 0} (P : Y → Type 0) (f : X → Y) (xs : List X) → AllByRecursion P (map f xs) → AllByRecursion (λ (x : X). P (f x)) xs
from_map P f [] all = tt
from_map P f (x ∷ xs) all = (all.0, from_map P f xs all.1)

pub all_both : {X : Type 0} (P Q : X → Type 0) (xs : List X) → AllByRecursion P xs → AllByRecursion Q xs → AllByRecursion (λ (x : X). P x × Q x) xs
all_both P Q [] p q = tt
all_both P Q (x ∷ xs) p q = ((p.0, q.0), all_both P Q xs p.1 q.1)

pub at_place_in : {X : Type 0} (xs : List X) (i : ℕ) (d : X) → i < length xs → Contains xs (get_or xs i d)
at_place_in xs i d lt = All-contains_itself xs i d lt

-- ---- nodes that are read

-- one more is
pub one_read : (nodes : List NewNode) (i : ℕ) (d : NewNode) (read : List Gathered) (new : Gathered) → i < length nodes → AreFit (bytes_of (take i nodes)) read
    → new.bytes.now ≡ (get_or nodes i d).bytes.items → IsFit new → AreFit (bytes_of (take (i + 1) nodes)) (read ++ new ∷ [])
one_read nodes i d read new lt are is fit = record {
  same = map-append (λ (node : Gathered). node.bytes.now) read (new ∷ [])
      ∙ ap (λ (l : List (List ℕ)). l ++ new.bytes.now ∷ []) are.same
      ∙ ap (λ (b : List ℕ). bytes_of (take i nodes) ++ b ∷ []) is
      ∙ sym (ap bytes_of (take_more nodes i d lt) ∙ map-append (λ (node : NewNode). node.bytes.items) (take i nodes) (get_or nodes i d ∷ []));
  fit = all_and IsFit read new are.fit fit;
}

-- all are
pub all_read : (nodes : List NewNode) (i : ℕ) (read : List Gathered) → length nodes ≤ i → AreFit (bytes_of (take i nodes)) read → AreFit (bytes_of nodes) read
all_read nodes i read le are = subst (λ (l : List NewNode). AreFit (bytes_of l) read) (take_all i nodes le) are

pub unread : (nodes : List NewNode) (i : ℕ) (d : NewNode) (fault : WriteFault) → i < length nodes → IsUnfit (get_or nodes i d).bytes.items fault → IsReadFault (bytes_of nodes) fault
unread nodes i d fault lt unfit = ((get_or nodes i d).bytes.items, in_map (λ (node : NewNode). node.bytes.items) nodes (get_or nodes i d) (at_place_in nodes i d lt), unfit)

-- the nodes of a file have these bytes
pub same_bytes : (nodes : List Gathered) → map (λ (kept : Kept). kept.bytes) (kepts nodes) ≡ map (λ (node : Gathered). node.bytes.now) nodes
same_bytes [] = refl
same_bytes (node ∷ nodes) = ap (λ (l : List (List ℕ)). node.bytes.now ∷ l) (same_bytes nodes)

pub apart_once : (nodes : List Kept) → AreEachOnce (map (λ (kept : Kept). kept.bytes) nodes) → AreApart nodes
apart_once [] once = tt
apart_once (kept ∷ nodes) once = (from_map (λ (other : List ℕ). digest other ≢ digest kept.bytes) (λ (other : Kept). other.bytes) nodes once.0, apart_once nodes once.1)

-- ---- old places

-- what was found for a node is its old place
module _ (old : List ℕ → Option Place) (nodes : List NewNode) (i : ℕ) (node : NewNode) (lt : i < length nodes) (is : node ≡ get_or nodes i node) (found : Option Place) (asked : found ≡ old node.digest.0) where
  old_place : found ≡ old (digest (get_or nodes i node).bytes.items)
  old_place = asked ∙ ap old (node.own ∙ ap (λ (n : NewNode). digest n.bytes.items) is)

  -- where it has none, one more node is new
  pub new_more : found ≡ None → AreNew old (bytes_of (take i nodes)) → AreNew old (bytes_of (take (i + 1) nodes))
  new_more none so_far =
      subst (AreNew old) (sym (ap bytes_of (take_more nodes i node lt) ∙ map-append (λ (n : NewNode). n.bytes.items) (take i nodes) (get_or nodes i node ∷ [])))
      (all_and (λ (bytes : List ℕ). old (digest bytes) ≡ None) (bytes_of (take i nodes)) (get_or nodes i node).bytes.items so_far (sym old_place ∙ none))

  -- where it has one, the nodes aren't new
  pub not_new : IsSome found → ¬ AreNew old (bytes_of nodes)
  not_new some new =
      let here = in_map (λ (n : NewNode). n.bytes.items) nodes (get_or nodes i node) (at_place_in nodes i node lt) in
      let none = of_each (λ (bytes : List ℕ). old (digest bytes) ≡ None) (bytes_of nodes) (get_or nodes i node).bytes.items new here in
      false≢true (subst (λ (o : Option Place). IsSome o) (old_place ∙ none) some)

-- ---- earlier places

earlier_by : (number : ℕ) (q p : Place) (b : Bool) → nat_lt q.at (number * 2 ^ 48) ≡ b → cond b (Some q) None ≡ Some p → p.at < number * 2 ^ 48
earlier_by number q p true lt is = subst (λ (r : Place). r.at < number * 2 ^ 48) (some_is q p is) (ltb-true q.at (number * 2 ^ 48) lt)
earlier_by number q p false lt is = absurd (Prim.cc)

-- an earlier place is before the file
pub earlier_near : (number : ℕ) (o : Option Place) (p : Place) → option_and_then (if_before number) o ≡ Some p → p.at < number * 2 ^ 48
earlier_near number None p is = absurd (Prim.cc)
earlier_near number (Some q) p is = earlier_by number q p (nat_lt q.at (number * 2 ^ 48)) refl is

-- ---- places that are put into a map

module _ {S : Type 0} (m n : HashMap Digest Place S) (k : Digest) (p : Place) (up : Updates digest_eq m n k (Some p)) (place_of : List ℕ → Option Place) where
  put_by : (q : Digest) (x : Place) (b : Bool) → digest_eq k q ≡ b → cond b (Some p) (get digest_eq m q) ≡ Some x → ArePut place_of m → IsOwn place_of k.0 p → IsOwn place_of q.0 x
  put_by q x true hit is old own = subst (λ (y : Place). IsOwn place_of q.0 y) (some_is p x is) (subst (λ (d : Digest). IsOwn place_of d.0 p) (eq_is k q hit) own)
  put_by q x false miss is old own = old q x is

  -- one more is its node's
  pub put_more : ArePut place_of m → IsOwn place_of k.0 p → ArePut place_of n
  put_more old own q x is = put_by q x (digest_eq k q) refl (sym (up.0 q) ∙ is) old own

-- what has its earlier place has it where more are put
pub earlier_later : {S : Type 0} (place_of earlier : List ℕ → Option Place) (m n : HashMap Digest Place S) → ((key : List ℕ) → IsKnown m key → IsKnown n key) → AreEarlier place_of earlier m → AreEarlier place_of earlier n
earlier_later place_of earlier m n keeps are key place is unknown = are key place is (λ known. unknown (keeps key known))

pub left_before : {S : Type 0} (earlier : List ℕ → Option Place) (m n : HashMap Digest Place S) (children : List Digest) → ((key : List ℕ) → IsKnown m key → IsKnown n key) → IsLeft earlier n children → IsLeft earlier m children
left_before earlier m n children keeps left = record { child = left.child; is_child = left.is_child; none = (λ known. left.none.0 (keeps left.child.0 known), left.none.1) }

-- what a fault tells
pub put_fault : (P Q : Type 0) (fault : WriteFault) → (P → Q) → IsPutFault P fault → IsPutFault Q fault
put_fault P Q faults.Missing f is = f is
put_fault P Q faults.Malformed f is = is
put_fault P Q faults.TooLong f is = is
put_fault P Q faults.Memory f is = is
put_fault P Q faults.NotWritten f is = is

-- ---- nodes that are laid out

pub len_same : (number : ℕ) (old : List ℕ → Option Place) (nodes : List Kept) → pack_len nodes ≡ further_len number old nodes
len_same number old nodes = ap (λ (n : ℕ). 60 + n) (records_long (place_in nodes) nodes ∙ sym (records_long (place_beside number nodes old) nodes))

pub beside_fault : (number : ℕ) (old : List ℕ → Option Place) (root : List ℕ) (nodes : List Gathered) (fault : WriteFault) → IsLayoutFault (kepts nodes) fault → IsBesideFault number old root nodes fault
beside_fault number old root nodes faults.Missing why = absurd why
beside_fault number old root nodes faults.Malformed why = inl why
beside_fault number old root nodes faults.TooLong why = subst (λ (n : ℕ). 2 ^ 48 < n) (len_same number old (kepts nodes)) why
beside_fault number old root nodes faults.Memory why = why
beside_fault number old root nodes faults.NotWritten why = absurd why

module _ {S : Type 0} (number : ℕ) (old : List ℕ → Option Place) (nodes : List Gathered) (m : HashMap Digest Place S) (few : number < 65535) (fit : AllByRecursion IsFit nodes)
    (short : pack_len (kepts nodes) ≤ 2 ^ 48) (laid : (key : List ℕ) → place_by m key ≡ place_from (first_at number) (kepts nodes) key) where
  abbrev beside : List ℕ → Option Place
  beside = place_beside number (kepts nodes) old

  kept_short : AllByRecursion (λ (kept : Kept). record_len kept < 2 ^ 32) (kepts nodes)
  kept_short = all_map (λ (kept : Kept). record_len kept < 2 ^ 32) kept_of nodes (all_keep IsFit (λ (node : Gathered). record_len (kept_of node) < 2 ^ 32) (λ node is. is.short) nodes fit)

  -- the places of the nodes are theirs
  pub laid_own : ArePut beside m
  laid_own key place is =
      let found : place_from (first_at number) (kepts nodes) key.0 ≡ Some place = sym (laid key.0) ∙ is in
      let has = is_laid beside number (kepts nodes) key.0 place found in
      let long = len_same number old (kepts nodes) in
      let own = of_each (λ (kept : Kept). record_len kept < 2 ^ 32) (kepts nodes) has.kept kept_short has.is_in in
      record {
        is = ap (λ (o : Option Place). option_or o (old key.0)) found;
        near = omega (arith, has.within, has.len, long, short, few);
        short = omega (arith, has.len, own);
      }

  -- where nothing is known nothing is laid
  pub unlaid : (key : List ℕ) → ¬ IsKnown m key → place_from (first_at number) (kepts nodes) key ≡ None
  unlaid key unknown = by (place_by m key) refl
    where
      by : (o : Option Place) → place_by m key ≡ o → place_from (first_at number) (kepts nodes) key ≡ None
      by None none = sym (laid key) ∙ none
      by (Some place) some = absurd (unknown (ap (λ (o : Option Place). is_some o) some))

  pub laid_earlier : AreEarlier beside old m
  laid_earlier key place is unknown = ap (λ (o : Option Place). option_or o (old key)) (unlaid key unknown) ∙ is

  pub left_out : IsLeftIn old m nodes → IsWithoutChild number old (kepts nodes)
  left_out left = record {
    kept = kept_of left.node;
    is_in = in_map kept_of nodes left.node left.is_in;
    child = left.left.child.0;
    is_child = in_map (λ (key : Digest). key.0) left.node.children.items left.left.child left.left.is_child;
    none = ap (λ (o : Option Place). option_or o (old left.left.child.0)) (unlaid left.left.child.0 left.left.none.0) ∙ left.left.none.1;
  }

-- ---- the file

-- where places are known they are those beside the others
pub known_same : {S : Type 0} (place_of : List ℕ → Option Place) (n : HashMap Digest Place S) → ArePut place_of n → (key : List ℕ) → IsKnown n key → (place_by n key ≡ place_of key) × IsPlaced place_of (2 ^ 64 - 1) key
known_same place_of n put key known = by (place_by n key) refl known
  where
    by : (o : Option Place) → place_by n key ≡ o → IsSome o → (place_by n key ≡ place_of key) × IsPlaced place_of (2 ^ 64 - 1) key
    by None none some = absurd (Prim.cc)
    by (Some place) found some =
        let own = put (key_with key) place found in
        (found ∙ sym own.is, record { place = place; is = own.is; near = own.near; wide = omega (arith, own.near); short = own.short })

module _ {S : Type 0} (place_of : List ℕ → Option Place) (n : HashMap Digest Place S) (put : ArePut place_of n) where
  children_same : (children : List Digest) → AllByRecursion (λ (child : Digest). IsKnown n child.0) children → AllByRecursion (λ (child : List ℕ). place_by n child ≡ place_of child) (digests_of children)
  children_same children all =
      all_map (λ (child : List ℕ). place_by n child ≡ place_of child) (λ (key : Digest). key.0) children
      (all_keep (λ (child : Digest). IsKnown n child.0) (λ (child : Digest). place_by n child.0 ≡ place_of child.0) (λ child known. (known_same place_of n put child.0 known).0) children all)

  pub children_placed : (children : List Digest) → AllByRecursion (λ (child : Digest). IsKnown n child.0) children → AllByRecursion (IsPlaced place_of (2 ^ 64 - 1)) (digests_of children)
  children_placed children all =
      all_map (IsPlaced place_of (2 ^ 64 - 1)) (λ (key : Digest). key.0) children
      (all_keep (λ (child : Digest). IsKnown n child.0) (λ (child : Digest). IsPlaced place_of (2 ^ 64 - 1) child.0) (λ child known. (known_same place_of n put child.0 known).1) children all)

  -- so the records are
  pub records_same : (nodes : List Gathered) → AllByRecursion (HasPlaces n) nodes → flat_map (record_bytes (place_by n)) (kepts nodes) ≡ flat_map (record_bytes place_of) (kepts nodes)
  records_same [] all = refl
  records_same (node ∷ nodes) all =
      let kept = kept_of node in
      ap (λ (t : List ℕ). (to_be_bytes w32 (length kept.bytes) ++ (kept.bytes ++ t)) ++ flat_map (record_bytes (place_by n)) (kepts nodes)) (table_same (place_by n) place_of kept.children (children_same node.children.items all.0))
      ∙ ap (λ (l : List ℕ). record_bytes place_of kept ++ l) (records_same nodes all.1)

module _ {S : Type 0} (number : ℕ) (old : List ℕ → Option Place) (root : List ℕ) (nodes : List Gathered) (n : HashMap Digest Place S) (fit : AllByRecursion IsFit nodes)
    (short : pack_len (kepts nodes) ≤ 2 ^ 48) (apart : AreApart (kepts nodes)) (fresh : AllByRecursion (IsNewIn old) (kepts nodes)) (put : ArePut (place_beside number (kepts nodes) old) n)
    (known : AllByRecursion (HasPlaces n) nodes) (place : Place) (rooted : place_from (first_at number) (kepts nodes) root ≡ Some place) where
  -- each node is added
  added : (some : List Gathered) → AllByRecursion IsFit some → AllByRecursion (HasPlaces n) some → AllByRecursion (IsNewIn old) (kepts some) → AllByRecursion (IsAdded number old (kepts nodes)) (kepts some)
  added [] fit known fresh = tt
  added (node ∷ some) fit known fresh = (
    record { children = fit.0.children; placed = children_placed (place_beside number (kepts nodes) old) n put node.children.items known.0; short = fit.0.short; is_new = fresh.0 },
    added some fit.1 known.1 fresh.1,
  )

  pub is_file : IsFurther (further number old root (kepts nodes)) number old root (kepts nodes)
  is_file =
      let has = is_laid (place_beside number (kepts nodes) old) number (kepts nodes) root place rooted in
      record {
        bytes = refl;
        wide = ap (λ (l : List ℕ). length l) (sym has.has_digest) ∙ digest_len has.kept.bytes;
        added = added nodes fit known fresh;
        apart = apart;
        rooted = ap (λ (o : Option Place). is_some o) rooted;
        short = subst (λ (l : ℕ). l ≤ 2 ^ 48) (len_same number old (kepts nodes)) short;
      }

pub put_beside : {S : Type 0} (number : ℕ) (old : List ℕ → Option Place) (root : List ℕ) (nodes : List Gathered) (m : HashMap Digest Place S) (fault : WriteFault)
    → (IsLeftIn old m nodes → IsWithoutChild number old (kepts nodes)) → IsPutFault (IsLeftIn old m nodes) fault → IsBesideFault number old root nodes fault
put_beside number old root nodes m faults.Missing f is = f is
put_beside number old root nodes m faults.Malformed f is = absurd is
put_beside number old root nodes m faults.TooLong f is = absurd is
put_beside number old root nodes m faults.Memory f is = is
put_beside number old root nodes m faults.NotWritten f is = absurd is

-- what a header says
abbrev pub header_of : Digest → ℕ → Place → Header
header_of root size manifest = record { root = root; size = size; manifest = manifest }

header_parts : (root : Digest) (s t : ℕ) (p q : Place) → s ≡ t → p ≡ q → header_of root s p ≡ header_of root t q
header_parts root s t p q e f = rw (e, f) refl

-- the header of the file
pub header_is : (number : ℕ) (old : List ℕ → Option Place) (root : Digest) (nodes : List Kept) (size : ℕ) (manifest : Place) → size ≡ pack_len nodes → place_from (first_at number) nodes root.0 ≡ Some manifest
    → header_of root size manifest ≡ further_header number old root.0 nodes
header_is number old root nodes size manifest long placed =
    header_parts root size (further_len number old nodes) manifest (unwrap_or (place_from (first_at number) nodes root.0) no_place) (long ∙ len_same number old nodes)
    (sym (ap (λ (o : Option Place). unwrap_or o no_place) placed))
