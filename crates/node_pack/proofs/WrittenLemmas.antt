-- A pack that is written.
use Rattle.std.proofs.Common.{◌≡◌, ◌≢◌, ◌≤◌, ◌^◌, ℕ, List, ◌++◌, Option, refl, sym, ap, subst, ◌∙◌, inr}
use Rattle.std.specs.Io.KnownBytes.{Appends}
use Rattle.std.specs.List.{flat_map}
use Rattle.std.specs.Prelude.{Err, IfErr, IfOk, IsErrAnd, Ok, Result, unwrap_or}
use Rattle.std.proofs.KnownBytes.{Appends-trans}
use mathlib.Core.Path.{fun_ext}
use Rattle.byte_io.specs.Written.{AppendsFront}
use Rattle.tree_node.specs.Shelves.{IsClashFree}
use Rattle.node_pack.specs.Headers.{header_bytes}
use Rattle.node_pack.specs.Packs.{AreApart, Kept, no_place, pack, pack_len, place_in, record_bytes}
use Rattle.node_pack.specs.Reached.{ArePacked, IsReason}
use Rattle.node_pack.specs.declared.gathered.Gathered.{Gathered}
use Rattle.node_pack.specs.declared.header.Header.{Header}
use Rattle.node_pack.specs.declared.place.Place.{Place}
use Rattle.node_pack.specs.declared.write_fault.WriteFault.{WriteFault}
use Rattle.node_pack.specs.declared.write_fault.WriteFault.TheVariants as faults
use Rattle.node_pack.specs.internal.Gathering.{IsLayoutFault, IsPackFault, IsWhole, kepts}
use Rattle.node_pack.proofs.WholeLemmas.{all_reached, are_packed}
use Rattle.node_pack.proofs.WriteLemmas.{front_of_both, front_of_first}

-- the one fault that is told
pub told_is : {A : Type 0} (r : Result A WriteFault) (fault : WriteFault) (P : WriteFault → Type 0) → IsErrAnd r (λ told. told ≡ fault) → P fault → IfErr r P
told_is (Ok a) fault P told is = absurd told
told_is (Err e) fault P told is = subst P (sym told) is

-- a fault that has a reason isn't the writer's
pub not_writers : {A Q : Type 0} (held : List ℕ → Type 0) (root : List ℕ) (r : Result A WriteFault) (fault : WriteFault) → IsErrAnd r (λ told. told ≡ fault) → IsReason held root fault → r ≡ Err faults.NotWritten → Q
not_writers held root r fault told reason e =
    let why = subst (λ (r : Result _ WriteFault). IsErrAnd r (λ told. told ≡ fault)) e told in
    absurd (subst (IsReason held root) (sym why) reason)

header_is : (h : Header) (root : List ℕ) (size : ℕ) (manifest : Place) → h.root.0 ≡ root → h.size ≡ size → h.manifest ≡ manifest → h ≡ record { root = record { 0 = root }; size = size; manifest = manifest }
header_is h root size manifest a b c = rw (← a, ← b, ← c) refl

-- the bytes of a pack, from its header and its records
pub pack_is : (root : List ℕ) (nodes : List Kept) (place_of : List ℕ → Option Place) (h : Header) → ((key : List ℕ) → place_of key ≡ place_in nodes key) → h.root.0 ≡ root → h.size ≡ pack_len nodes
    → h.manifest ≡ unwrap_or (place_of root) no_place → header_bytes h ++ flat_map (record_bytes place_of) nodes ≡ pack root nodes
unfolding pack
pack_is root nodes place_of h same is-root is-size is-manifest =
    let places : place_of ≡ place_in nodes = fun_ext same in
    let manifest : h.manifest ≡ unwrap_or (place_in nodes root) no_place = is-manifest ∙ ap (λ (o : Option Place). unwrap_or o no_place) (same root) in
    ap (λ (f : List ℕ → Option Place). header_bytes h ++ flat_map (record_bytes f) nodes) places
    ∙ ap (λ (k : Header). header_bytes k ++ flat_map (record_bytes (place_in nodes)) nodes) (header_is h root (pack_len nodes) (unwrap_or (place_in nodes root) no_place) is-root is-size manifest)

module _ (root : List ℕ) (nodes : List Kept) (place_of : List ℕ → Option Place) (h : Header) (same : (key : List ℕ) → place_of key ≡ place_in nodes key) (is-root : h.root.0 ≡ root)
    (is-size : h.size ≡ pack_len nodes) (is-manifest : h.manifest ≡ unwrap_or (place_of root) no_place) (text : List ℕ) (is-text : text ≡ header_bytes h) (old mid new : Option (List ℕ)) where
  -- the header and the records are the pack
  pub pack_whole : Appends old mid text → Appends mid new (flat_map (record_bytes place_of) nodes) → Appends old new (pack root nodes)
  pack_whole first second =
      subst (Appends old new) (pack_is root nodes place_of h same is-root is-size is-manifest) (Appends-trans old mid new (header_bytes h) _ (subst (Appends old mid) is-text first) second)

  -- the header and a beginning of the records begin it
  pub pack_part : Appends old mid text → AppendsFront mid new (flat_map (record_bytes place_of) nodes) → AppendsFront old new (pack root nodes)
  pack_part first second =
      subst (AppendsFront old new) (pack_is root nodes place_of h same is-root is-size is-manifest) (front_of_both old mid new (header_bytes h) _ (subst (Appends old mid) is-text first) second)

  -- a beginning of the header does
  pub pack_front : AppendsFront old new text → AppendsFront old new (pack root nodes)
  pack_front first =
      subst (AppendsFront old new) (pack_is root nodes place_of h same is-root is-size is-manifest) (front_of_first old new (header_bytes h) (flat_map (record_bytes place_of) nodes) (subst (AppendsFront old new) is-text first))

pub layout_fault : (root : List ℕ) (nodes : List Kept) (old new : Option (List ℕ)) (Untouched : Type 0) (fault : WriteFault) → AreApart nodes → IsLayoutFault nodes fault → Untouched → IsPackFault root nodes old new Untouched fault
layout_fault root nodes old new Untouched faults.Missing apart why same = absurd why
layout_fault root nodes old new Untouched faults.Malformed apart why same = absurd (why apart)
layout_fault root nodes old new Untouched faults.TooLong apart why same = (why, same)
layout_fault root nodes old new Untouched faults.Memory apart why same = same
layout_fault root nodes old new Untouched faults.NotWritten apart why same = absurd why

-- ---- of what stands under a root

module _ (held : List ℕ → Type 0) (clash_free : IsClashFree held) (root : List ℕ) (nodes : List Gathered) (whole : IsWhole held root nodes) (old new : Option (List ℕ)) (Untouched : Type 0) (r : Result ℕ WriteFault) where
  pub packed_written : IfOk r (λ len. Appends old new (pack root (kepts nodes))) → IfOk r (λ len. (len ≡ pack_len (kepts nodes)) × (len ≤ 2 ^ 48))
      → IfOk r (λ len. (all : List Kept) × ArePacked held root all × Appends old new (pack root all) × (len ≡ pack_len all))
  packed_written = by r
    where
      by : (r : Result ℕ WriteFault) → IfOk r (λ len. Appends old new (pack root (kepts nodes))) → IfOk r (λ len. (len ≡ pack_len (kepts nodes)) × (len ≤ 2 ^ 48))
          → IfOk r (λ len. (all : List Kept) × ArePacked held root all × Appends old new (pack root all) × (len ≡ pack_len all))
      by (Ok len) written (is, short) = (kepts nodes, are_packed held root nodes whole clash_free (subst (λ (n : ℕ). n ≤ 2 ^ 48) is short), written, is)
      by (Err fault) written is = tt

  pub packed_refused : IfErr r (IsPackFault root (kepts nodes) old new Untouched) → IfErr r (λ fault. fault ≢ faults.NotWritten → IsReason held root fault)
  packed_refused = by r
    where
      why : (fault : WriteFault) → IsPackFault root (kepts nodes) old new Untouched fault → fault ≢ faults.NotWritten → IsReason held root fault
      why faults.Missing is other = absurd is
      why faults.Malformed is other = absurd is
      why faults.TooLong is other = inr (kepts nodes, all_reached held root nodes whole, whole.apart, is.0)
      why faults.Memory is other = tt
      why faults.NotWritten is other = absurd (other refl)

      by : (r : Result ℕ WriteFault) → IfErr r (IsPackFault root (kepts nodes) old new Untouched) → IfErr r (λ fault. fault ≢ faults.NotWritten → IsReason held root fault)
      by (Ok len) is = tt
      by (Err fault) is = why fault is

  pub packed_begun : IfErr r (IsPackFault root (kepts nodes) old new Untouched) → r ≡ Err faults.NotWritten → (all : List Kept) × ArePacked held root all × AppendsFront old new (pack root all)
  packed_begun is e =
      let why = subst (λ (r : Result ℕ WriteFault). IfErr r (IsPackFault root (kepts nodes) old new Untouched)) e is in
      (kepts nodes, are_packed held root nodes whole clash_free why.0, why.1)

  pub packed_untouched : IfErr r (IsPackFault root (kepts nodes) old new Untouched) → IfErr r (λ fault. fault ≢ faults.NotWritten → Untouched)
  packed_untouched = by r
    where
      why : (fault : WriteFault) → IsPackFault root (kepts nodes) old new Untouched fault → fault ≢ faults.NotWritten → Untouched
      why faults.Missing is other = absurd is
      why faults.Malformed is other = absurd is
      why faults.TooLong is other = is.1
      why faults.Memory is other = is
      why faults.NotWritten is other = absurd (other refl)

      by : (r : Result ℕ WriteFault) → IfErr r (IsPackFault root (kepts nodes) old new Untouched) → IfErr r (λ fault. fault ≢ faults.NotWritten → Untouched)
      by (Ok len) is = tt
      by (Err fault) is = why fault is
