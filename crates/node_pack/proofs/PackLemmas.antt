-- What is read of a pack.
use Rattle.std.proofs.Common.{◌≡◌, ◌≤◌, ◌<◌, ◌+◌, ◌-◌, ◌^◌, ◌⊎◌, inl, inr, ℕ, List, [], ◌∷◌, ◌++◌, Option, Some, None, length, take, drop, min, refl, sym, ap, subst, ◌∙◌, arith, length-append, length-take, w32}
use Rattle.std.specs.Int.{to_be_bytes}
use Rattle.std.specs.HashMap.{HashMap, IsEmpty}
use Rattle.std.specs.Map.{lookup}
use Rattle.tree_node.specs.Keys.{digest_eq}
use Rattle.std.specs.List.{AllByRecursion, Contains}
use Rattle.std.specs.Prelude.{OnOk, IfErr, IsErrAnd, Result, Ok, Err, unwrap_or}
use Rattle.std.proofs.Math.Seq.{take-append-add}
use Rattle.std.proofs.lemmas.Bool.{cases_order}
use Rattle.std.proofs.lemmas.List.{take_at, take_all, take-append-le, take-take}
use Rattle.tree_node.specs.Digests.{digest}
use Rattle.tree_node.specs.declared.digest.Digest.{Digest}
use Rattle.tree_node.proofs.shared.FieldLemmas.{wide32}
use Rattle.node_pack.specs.declared.header.TheConstants.{VERSION}
use Rattle.node_pack.specs.Headers.{header_at, header_bytes}
use Rattle.node_pack.specs.declared.fault.PackFault.{PackFault}
use Rattle.node_pack.specs.Known.{AreTrue, IsPlaced}
use Rattle.node_pack.specs.Packs.{HasChildren, IsPack, Kept, no_place, node_in, pack, place_in, record_bytes, records_in, table}
use Rattle.node_pack.specs.Placed.{HasNodeAt}
use Rattle.node_pack.specs.declared.header.Header.{Header}
use Rattle.node_pack.specs.declared.place.Place.{Place}
use Rattle.node_pack.proofs.ChildLemmas.{few_children}
use Rattle.node_pack.proofs.HeaderLemmas.{header_again}
use Rattle.node_pack.proofs.RecordLemmas.{node_again}
use Rattle.node_pack.proofs.shared.PackPlaces.{are_placed, header_in, pack_long}
use Rattle.node_pack.proofs.shared.RecordPlaces.{header_long, record_long}

-- ---- what is read at a place

-- of a record that is cut off after more than so many bytes of its node
module _ (place_of : List ℕ → Option Place) (kept : Kept) (short : length kept.bytes < 2 ^ 32) (most k : ℕ) (much : most + 1 ≤ k) (long : most < length kept.bytes) where
  body : List ℕ
  body = kept.bytes ++ table place_of kept.children

  cut_node : node_in (take (4 + k) (record_bytes place_of kept)) ≡ take (length kept.bytes) (take k (kept.bytes ++ table place_of kept.children))
  cut_node =
      ap node_in (take-append-add (to_be_bytes w32 (length kept.bytes)) (kept.bytes ++ table place_of kept.children) k)
      ∙ ap (λ (n : ℕ). take n (take k (kept.bytes ++ table place_of kept.children))) (wide32.again (length kept.bytes) short)

  pub cut_front : take (most + 1) (node_in (take (4 + k) (record_bytes place_of kept))) ≡ take (most + 1) kept.bytes
  cut_front =
      ap (take (most + 1)) cut_node
      ∙ take-take (most + 1) (length kept.bytes) (take k (kept.bytes ++ table place_of kept.children)) (omega arith)
      ∙ take-take (most + 1) k (kept.bytes ++ table place_of kept.children) much
      ∙ take-append-le (most + 1) kept.bytes (table place_of kept.children) (omega arith)

  pub cut_long : most < length (node_in (take (4 + k) (record_bytes place_of kept)))
  cut_long =
      let e = ap length cut_node in
      omega (
        arith,
        e,
        length-take (length kept.bytes) (take k (kept.bytes ++ table place_of kept.children)),
        length-take k (kept.bytes ++ table place_of kept.children),
        length-append kept.bytes (table place_of kept.children),
      )

-- What was read at the place of a node, for at most so many bytes.
pub record ReadKept (place_of : List ℕ → Option Place) (limit : ℕ) (nodes : List Kept) (key : List ℕ) (most : ℕ) (bytes : List ℕ) : Type 0 where
  pub kept : Kept
  pub is_in : Contains nodes kept
  pub has_digest : digest kept.bytes ≡ key
  pub front : take (most + 1) (node_in bytes) ≡ take (most + 1) kept.bytes
  pub whole : length kept.bytes ≤ most → bytes ≡ record_bytes place_of kept
  pub long : most < length kept.bytes → most < length (node_in bytes)
  pub children : HasChildren kept.bytes kept.children
  pub placed : AllByRecursion (IsPlaced place_of limit) kept.children
  pub short : length kept.bytes < 2 ^ 32

pub less_or_more : (a b : ℕ) → (a ≤ b) ⊎ (b < a)
less_or_more a b =
    elim (cases_order a b) [
      | inl same ↦ inl (omega (arith, same))
      | inr (inl less) ↦ inl (omega (arith, less))
      | inr (inr more) ↦ inr more
    ]

pub read_kept : (file : List ℕ) (limit : ℕ) (place_of : List ℕ → Option Place) (nodes : List Kept) (key : List ℕ) (place : Place) (most : ℕ) (bytes : List ℕ) → HasNodeAt file limit place_of nodes key place
    → bytes ≡ take (min place.len (most + 772)) (drop place.at file) → ReadKept place_of limit nodes key most bytes
read_kept file limit place_of nodes key place most bytes has read =
    let few = few_children has.kept.bytes has.kept.children has.children in
    let short : length has.kept.bytes < 2 ^ 32 = omega (arith, has.short) in
    let record_of = record_bytes place_of has.kept in
    let cut : bytes ≡ take (min place.len (most + 772)) record_of =
    read ∙ sym (take-take (min place.len (most + 772)) place.len (drop place.at file) (omega arith)) ∙ ap (λ (l : List ℕ). take (min place.len (most + 772)) l) has.stands in
    let whole : length has.kept.bytes ≤ most → bytes ≡ record_of = λ le.
    cut ∙ take_all (min place.len (most + 772)) record_of (omega (arith, record_long place_of has.kept, has.len, few, le)) in
    let more : most < length has.kept.bytes → (k : ℕ) × (most + 1 ≤ k) × (4 + k ≡ min place.len (most + 772)) = λ lt.
    (min place.len (most + 772) - 4, omega (arith, has.len, lt), omega (arith, has.len, lt)) in
    record {
      kept = has.kept;
      is_in = has.is_in;
      has_digest = has.has_digest;
      front = elim (less_or_more (length has.kept.bytes) most) [
        | inl le ↦ ap (λ (l : List ℕ). take (most + 1) (node_in l)) (whole le) ∙ ap (take (most + 1)) (node_again place_of has.kept short)
        | inr lt ↦
            let (k, much, e) = more lt in
            ap (λ (l : List ℕ). take (most + 1) (node_in l)) (cut ∙ ap (λ (n : ℕ). take n record_of) (sym e)) ∙ cut_front place_of has.kept short most k much lt
      ];
      whole = whole;
      long = λ lt.
          let (k, much, e) = more lt in
          subst (λ (l : List ℕ). most < length (node_in l)) (sym (cut ∙ ap (λ (n : ℕ). take n record_of) (sym e))) (cut_long place_of has.kept short most k much lt);
      children = has.children;
      placed = has.placed;
      short = short;
    }

-- what follows of a result that is Ok
pub on_ok : {A E : Type 0} {P Q : Type 0} (r : Result A E) → OnOk r P → (P → Q) → OnOk r Q
on_ok (Ok a) p f = f p
on_ok (Err e) p f = tt

-- the same of what is so under a premise
pub on_ok_where : {A E : Type 0} {W P Q : Type 0} (r : Result A E) → (W → OnOk r P) → ((W → P) → Q) → OnOk r Q
on_ok_where (Ok a) p f = f p
on_ok_where (Err e) p f = tt

-- what is known stays true after a record was read, whether its node was too long to learn from or not
pub trues_after : {S : Type 0} (place_of : List ℕ → Option Place) (limit : ℕ) (nodes : List Kept) (key : List ℕ) (most : ℕ) (bytes : List ℕ) (m n : HashMap Digest Place S)
    → ReadKept place_of limit nodes key most bytes → AreTrue place_of m
    → (most < length (node_in bytes) → n ≡ m)
    → ((place_of : List ℕ → Option Place) (kept : Kept) → AreTrue place_of m → bytes ≡ record_bytes place_of kept → HasChildren kept.bytes kept.children
    → AllByRecursion (IsPlaced place_of limit) kept.children → length kept.bytes < 2 ^ 32 → AreTrue place_of n)
    → AreTrue place_of n
trues_after {S = S} place_of limit nodes key most bytes m n read old same learned =
    elim (less_or_more (length read.kept.bytes) most) [
      | inl le ↦ learned place_of read.kept old (read.whole le) read.children read.placed read.short
      | inr lt ↦ subst (λ (places : HashMap Digest Place S). AreTrue place_of places) (sym (same (read.long lt))) old
    ]

-- Ok of a header
abbrev the_ok : Header → Result Header PackFault
the_ok h = Ok h

-- the node with the root stands in the file
pub root_near : (root : List ℕ) (nodes : List Kept) (place : Place) → IsPack (pack root nodes) root nodes → place_in nodes root ≡ Some place → place.at < 2 ^ 48
root_near root nodes place is at =
    let placed = (are_placed root nodes is (root ∷ []) (is.rooted, tt)).0 in
    let same : placed.place ≡ place = (let both : Some placed.place ≡ Some place = sym placed.is ∙ at in cc) in
    subst (λ (p : Place). p.at < 2 ^ 48) same placed.near

-- What is read of the header of a pack.
pub record HasHeader (root : List ℕ) (nodes : List Kept) (header : Header) : Type 0 where
  pub same : header.root.0 ≡ root
  pub is : place_in nodes header.root.0 ≡ Some header.manifest
  pub near : header.manifest.at < 2 ^ 48

pub has_header : (root : List ℕ) (nodes : List Kept) (header : Header) → IsPack (pack root nodes) root nodes → header_at (take 60 (pack root nodes)) (length (pack root nodes)) ≡ Ok header
    → HasHeader root nodes header
unfolding pack
has_header root nodes header is read =
    let h = header_in root nodes in
    let placed = (are_placed root nodes is (root ∷ []) (is.rooted, tt)).0 in
    let place : h.manifest ≡ placed.place = ap (λ (o : Option Place). unwrap_or o no_place) placed.is in
    let long = header_long VERSION h is.wide in
    let front : take 60 (pack root nodes) ≡ header_bytes h = take_at (header_bytes h) (records_in nodes) 60 long in
    let near : h.manifest.at < 2 ^ 48 = subst (λ (p : Place). p.at < 2 ^ 48) (sym place) placed.near in
    let short : h.manifest.len < 2 ^ 32 = subst (λ (p : Place). p.len < 2 ^ 32) (sym place) placed.short in
    let written = header_again h is.wide (omega (arith, is.short)) (omega (arith, near)) short (omega (arith, long)) in
    let again : header_at (take 60 (pack root nodes)) (length (pack root nodes)) ≡ Ok h = ap (λ (l : List ℕ). header_at l (length (pack root nodes))) front ∙ ap (λ (n : ℕ). header_at (header_bytes h) n) (pack_long root nodes is.wide) ∙ written in
    let same : h ≡ header = one_ok h header (sym again ∙ read) in
    subst (HasHeader root nodes) same (record { same = refl; is = placed.is ∙ ap (λ (p : Place). Some p) (sym place); near = near })
  where
    one_ok : (a b : Header) → the_ok a ≡ the_ok b → a ≡ b
    one_ok a b e = Prim.cc

-- nothing that is known is false where nothing is known
pub none_false : {S : Type 0} (place_of : List ℕ → Option Place) (m : HashMap Digest Place S) → IsEmpty m → AreTrue place_of m
none_false place_of m empty key place is = absurd (let none : lookup (digest_eq key) m.entries ≡ None = ap (lookup (digest_eq key)) empty in cc)

-- the fault that a result has
pub fault_is : {A : Type 0} (r : Result A PackFault) (fault : PackFault) (P : PackFault → Type 0) → IsErrAnd r (λ told. told ≡ fault) → P fault → IfErr r P
fault_is (Ok a) fault P told is = absurd told
fault_is (Err e) fault P told is = subst P (sym told) is
