-- A further file that is written.
use Rattle.std.proofs.Common.{◌≡◌, ◌≢◌, ℕ, List, ◌++◌, None, Option, inl, inr, map, refl, sym, ap, subst, ◌∙◌, arith}
use Rattle.std.specs.List.{AllByRecursion}
use Rattle.std.specs.Prelude.{Err, IsErrAnd, Result}
use Rattle.byte_io.specs.Written.{AppendsFront}
use Rattle.tree_node.specs.Digests.{digest}
use Rattle.node_pack.specs.Headers.{header_with}
use Rattle.node_pack.specs.Packs.{AreApart, HasChildren, Kept, digests_of}
use Rattle.node_pack.specs.declared.gathered.Gathered.{Gathered}
use Rattle.node_pack.specs.declared.header.Header.{Header}
use Rattle.node_pack.specs.declared.place.Place.{Place}
use Rattle.node_pack.specs.declared.write_fault.WriteFault.{WriteFault}
use Rattle.node_pack.specs.declared.write_fault.WriteFault.TheVariants as faults
use Rattle.node_pack.specs.internal.Gathering.{HasShortNode, kept_of, kepts}
use Rattle.node_pack.specs.Additions.{AreEachOnce, AreFurther, AreNew, AreRead, IsFurtherReason}
use Rattle.node_pack.specs.Further.{IsFurther, further, further_header, further_records}
use Rattle.node_pack.specs.declared.header.TheConstants.{FURTHER_VERSION}
use Rattle.node_pack.specs.internal.Laying.{AreFit, IsBesideFault, IsFit, IsNewIn, IsReadFault, IsTextFault}
use Rattle.node_pack.proofs.BesideLemmas.{all_keep, all_map, apart_once, from_map, same_bytes}

-- the header and the records are the file
pub further_text : (number : ℕ) (old : List ℕ → Option Place) (root : List ℕ) (nodes : List Kept) (h : Header) (records : List ℕ) → h ≡ further_header number old root nodes → records ≡ further_records number old nodes
    → header_with FURTHER_VERSION h ++ records ≡ further number old root nodes
unfolding further
further_text number old root nodes h records is-header is-records =
    ap (λ (k : Header). header_with FURTHER_VERSION k ++ records) is-header ∙ ap (λ (l : List ℕ). header_with FURTHER_VERSION (further_header number old root nodes) ++ l) is-records

module _ (number : ℕ) (old : List ℕ → Option Place) (root : List ℕ) (bytes : List (List ℕ)) where
  -- a node that isn't read is a reason
  pub read_reason : (fault : WriteFault) → IsReadFault bytes fault → IsFurtherReason number old root bytes fault
  read_reason faults.Missing why = absurd why.2
  read_reason faults.Malformed why = inr (inl why)
  read_reason faults.TooLong why = inl why
  read_reason faults.Memory why = tt
  read_reason faults.NotWritten why = absurd why.2

  -- a fault that has a reason isn't the writer's
  pub not_writers : {A Q : Type 0} (r : Result A WriteFault) (fault : WriteFault) → IsErrAnd r (λ told. told ≡ fault) → IsFurtherReason number old root bytes fault → r ≡ Err faults.NotWritten → Q
  not_writers r fault told reason e =
      let why = subst (λ (r : Result _ WriteFault). IsErrAnd r (λ told. told ≡ fault)) e told in
      absurd (subst (IsFurtherReason number old root bytes) (sym why) reason)

  module _ (nodes : List Gathered) (fit : AreFit bytes nodes) where
    the_same : map (λ (kept : Kept). kept.bytes) (kepts nodes) ≡ bytes
    the_same = same_bytes nodes ∙ fit.same

    are_read : AreRead bytes (kepts nodes)
    are_read = record {
      same = the_same;
      children = all_map (λ (kept : Kept). HasChildren kept.bytes kept.children) kept_of nodes
          (all_keep IsFit (λ (node : Gathered). HasChildren node.bytes.now (digests_of node.children.items)) (λ node is. is.children) nodes fit.fit);
    }

    are_apart : AreEachOnce bytes → AreApart (kepts nodes)
    are_apart once = apart_once (kepts nodes) (subst AreEachOnce (sym the_same) once)

    pub are_new : AreNew old bytes → AllByRecursion (IsNewIn old) (kepts nodes)
    are_new fresh = from_map (λ (one : List ℕ). old (digest one) ≡ None) (λ (kept : Kept). kept.bytes) (kepts nodes) (subst (AreNew old) (sym the_same) fresh)

    pub all_short : AllByRecursion HasShortNode nodes
    all_short = all_keep IsFit HasShortNode (λ node is. let short = is.short in omega (arith, short)) nodes fit.fit

    -- so is what isn't laid out
    pub beside_reason : (fault : WriteFault) → IsBesideFault number old root nodes fault → IsFurtherReason number old root bytes fault
    beside_reason faults.Missing why = (kepts nodes, are_read, why)
    beside_reason faults.Malformed why =
        elim why [
          | inl twice ↦ inr (inr (inl (λ once. twice (are_apart once))))
          | inr rootless ↦ inr (inr (inr (kepts nodes, are_read, rootless)))
        ]
    beside_reason faults.TooLong why = inr (kepts nodes, are_read, why)
    beside_reason faults.Memory why = tt
    beside_reason faults.NotWritten why = absurd why

    pub are_further : IsFurther (further number old root (kepts nodes)) number old root (kepts nodes) → AreFurther number old root bytes (kepts nodes)
    are_further is = record { same = the_same; is_further = is }

  -- ---- where the writer fails

  module _ (text : List ℕ) (before after : Option (List ℕ)) (Untouched : Type 0) where
    pub text_reason : (fault : WriteFault) → IsTextFault text before after Untouched fault → fault ≢ faults.NotWritten → IsFurtherReason number old root bytes fault
    text_reason faults.Missing why other = absurd why
    text_reason faults.Malformed why other = absurd why
    text_reason faults.TooLong why other = absurd why
    text_reason faults.Memory why other = tt
    text_reason faults.NotWritten why other = absurd (other refl)

    pub text_untouched : (fault : WriteFault) → IsTextFault text before after Untouched fault → fault ≢ faults.NotWritten → Untouched
    text_untouched faults.Missing why other = absurd why
    text_untouched faults.Malformed why other = absurd why
    text_untouched faults.TooLong why other = absurd why
    text_untouched faults.Memory why other = why
    text_untouched faults.NotWritten why other = absurd (other refl)

    pub text_begun : {A : Type 0} (r : Result A WriteFault) (fault : WriteFault) → IsErrAnd r (λ told. told ≡ fault) → IsTextFault text before after Untouched fault → r ≡ Err faults.NotWritten → AppendsFront before after text
    text_begun r fault told is e =
        let why = subst (λ (r : Result _ WriteFault). IsErrAnd r (λ told. told ≡ fault)) e told in
        subst (IsTextFault text before after Untouched) (sym why) is
