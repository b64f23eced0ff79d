-- Refusals that are passed on.
use Rattle.std.proofs.Common.{◌≡◌, ◌≢◌, ℕ, List, Result, Ok, Err, sym, ap, subst, ◌∙◌}
use Rattle.std.specs.Prelude.{IfErr, IfOk, IsErrAnd}
use Rattle.opl_codec.specs.declared.change.Change.{Change}
use Rattle.osm_keys.specs.Publications.{Publication}
use Rattle.node_pack.specs.declared.header.Header.{Header}
use Rattle.node_pack.specs.declared.write_fault.WriteFault.{WriteFault}
use Rattle.node_pack.specs.declared.write_fault.WriteFault.TheVariants.{NotWritten}
use Rattle.pack_update.specs.Faults.{IsAddReason, IsNoManifest}
use Rattle.pack_update.specs.declared.fault.AddFault.{AddFault}
use Rattle.pack_update.specs.declared.fault.AddFault.TheVariants.{Apply, NoManifest, NoTree, Source, Write}
use Rattle.pack_update.specs.internal.Updating.{IsEarlyReason, IsOfSource, IsUnreadOr}

-- a refusal that is passed on
pub refused_as : {A F : Type 0} (Says : F → Type 0) (result : Result A F) (fault : F) → IsErrAnd result (λ f. f ≡ fault) → Says fault → IfErr result Says
refused_as Says (Ok value) fault is says = tt
refused_as Says (Err f) fault is says = subst Says (sym is) says

-- what is so of results that aren't there, and of the refusal
pub refused_both : {A F : Type 0} (Is : A → Type 0) (Says : F → Type 0) (result : Result A F) (fault : F) → IsErrAnd result (λ f. f ≡ fault) → Says fault → IfOk result Is × IfErr result Says
refused_both Is Says (Ok value) fault is says = absurd is
refused_both Is Says (Err f) fault is says = (tt, subst Says (sym is) says)

-- a refusal has no result
pub no_result : {A F : Type 0} (Is : A → Type 0) (result : Result A F) (fault : F) → IsErrAnd result (λ f. f ≡ fault) → IfOk result Is
no_result Is (Ok value) fault is = absurd is
no_result Is (Err f) fault is = tt

-- ---- reasons

pub add_early : (p : Publication) (all : List Change) (number : ℕ) (fault : AddFault) → IsEarlyReason p all fault → IsAddReason p all number fault
add_early p all number (Source reason) early = tt
add_early p all number NoManifest early = absurd early
add_early p all number NoTree early = absurd early
add_early p all number (Apply fault) early = early
add_early p all number (Write fault) early = absurd early

pub add_source : (p : Publication) (all : List Change) (number : ℕ) (fault : AddFault) → IsOfSource fault → IsAddReason p all number fault
add_source p all number (Source reason) of = tt
add_source p all number NoManifest of = absurd of
add_source p all number NoTree of = absurd of
add_source p all number (Apply fault) of = absurd of
add_source p all number (Write fault) of = absurd of

-- ---- faults that are told by name

module _ {A : Type 0} where
  pub as_no_manifest : (root : List ℕ) (result : Result A AddFault) (fault : AddFault) → IsErrAnd result (λ f. f ≡ fault) → IsUnreadOr root fault → result ≡ Err NoManifest → IsNoManifest root
  as_no_manifest root (Ok value) fault is un e = absurd (Prim.cc)
  as_no_manifest root (Err f) fault is un e = let told : f ≡ NoManifest = Prim.cc in subst (IsUnreadOr root) (sym is ∙ told) un

  -- before anything is written no fault is the writer's
  pub not_writers : (root : List ℕ) (result : Result A AddFault) (fault : AddFault) (other : WriteFault) → IsErrAnd result (λ f. f ≡ fault) → IsUnreadOr root fault → ¬ (result ≡ Err (Write other))
  not_writers root (Ok value) fault other is un e = Prim.cc
  not_writers root (Err f) fault other is un e = let told : f ≡ Write other = Prim.cc in subst (IsUnreadOr root) (sym is ∙ told) un

  -- a writer's fault is no other
  pub not_no_manifest : (result : Result A AddFault) (fault : WriteFault) → IsErrAnd result (λ f. f ≡ Write fault) → ¬ (result ≡ Err NoManifest)
  not_no_manifest (Ok value) fault is e = Prim.cc
  not_no_manifest (Err f) fault is e = let told : f ≡ NoManifest = Prim.cc in Prim.cc

  pub write_untouched : {P : Type 0} (result : Result A AddFault) (fault : WriteFault) → IsErrAnd result (λ f. f ≡ Write fault) → (fault ≢ NotWritten → P) → IfErr result (λ f. f ≢ Write NotWritten → P)
  write_untouched (Ok value) fault is same = tt
  write_untouched (Err f) fault is same = λ other. same (λ e. other (is ∙ ap (λ (w : WriteFault). Write w) e))

  pub write_begun : {P : Type 0} (result : Result A AddFault) (failed : Result Header WriteFault) (fault : WriteFault) → IsErrAnd result (λ f. f ≡ Write fault) → failed ≡ Err fault → (failed ≡ Err NotWritten → P) → result ≡ Err (Write NotWritten) → P
  write_begun (Ok value) failed fault is was begun e = absurd (Prim.cc)
  write_begun (Err f) failed fault is was begun e =
      let told : f ≡ Write NotWritten = Prim.cc in
      let same : Write fault ≡ Write NotWritten = sym is ∙ told in
      let one : fault ≡ NotWritten = Prim.cc in
      begun (subst (λ (w : WriteFault). failed ≡ Err w) one was)
