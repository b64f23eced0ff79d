-- What comes of a fault.
use Rattle.std.proofs.Common.{◌≡◌, ◌≢◌, ◌⊎◌, inl, inr, ℕ, List, refl, subst, sym}
use Rattle.std.specs.Prelude.{Option, ⊤}
use Rattle.osm_packs.specs.declared.not_answered.NotAnswered.{NotAnswered}
use Rattle.osm_packs.specs.declared.not_answered.NotAnswered.TheVariants as faults
use Rattle.node_pack.specs.declared.fault.PackFault.TheVariants as packs
use Rattle.outside_shelf.specs.declared.refused.Refused.TheVariants as reasons
use Rattle.osm_query_web.proofs.ExplainLemmas.{device_readable}
use Rattle.osm_query_web.specs.Answers.{IsTableOfWanted}
use Rattle.osm_query_web.specs.declared.call_result.CallResult.{CallResult}
use Rattle.osm_query_web.specs.declared.call_result.CallResult.TheVariants.{Document, Missing, NoMemory, Refused}
use Rattle.osm_query_web.specs.declared.span.Span.{Span}
use Rattle.osm_query_web.specs.declared.stated.Stated.{Stated}
use Rattle.osm_query_web.specs.internal.CallResults.{ComesOf, ExplainsBy, IfDocument, IfMissing, IfRefused, IsAfterRead, IsExplained, ListsWanted}

-- it is no document; what is missing comes of a read that failed, and what is refused is the fault, which isn't out of memory
abbrev IsOf : (size : ℕ) (spans : List Span) → NotAnswered → CallResult → Type 0
IsOf size spans fault (Document document) = ⊥
IsOf size spans fault (Missing table) = ListsWanted size spans table.items × ((fault ≡ faults.Pack packs.Device) ⊎ (fault ≡ faults.Node reasons.Device))
IsOf size spans fault (Refused told) = (told ≡ fault) × (fault ≢ faults.Memory) × (fault ≢ faults.Device)
IsOf size spans fault NoMemory = ⊤

module _ (size : ℕ) (spans : List Span) where
  refused : (fault : NotAnswered) (outcome : CallResult) → fault ≢ faults.Memory → fault ≢ faults.Device → outcome ≡ Refused fault → IsOf size spans fault outcome
  refused fault outcome memory output is = subst (IsOf size spans fault) (sym is) (refl, memory, output)

  no_memory : (fault : NotAnswered) (outcome : CallResult) → outcome ≡ NoMemory → IsOf size spans fault outcome
  no_memory fault outcome is = subst (IsOf size spans fault) (sym is) tt

  after_read : (fault : NotAnswered) (outcome : CallResult) → fault ≢ faults.Memory → fault ≢ faults.Device → (fault ≡ faults.Pack packs.Device) ⊎ (fault ≡ faults.Node reasons.Device)
      → IsAfterRead size spans fault outcome → IsOf size spans fault outcome
  after_read fault (Document document) memory output device is = is
  after_read fault (Missing table) memory output device is = (is, device)
  after_read fault (Refused told) memory output device is = (is, memory, output)
  after_read fault NoMemory memory output device is = tt

  of : (fault : NotAnswered) (outcome : CallResult) → ComesOf size spans fault outcome → IsOf size spans fault outcome
  of faults.Memory outcome is = no_memory faults.Memory outcome is
  of faults.Device outcome is = no_memory faults.Device outcome is
  of (faults.Pack packs.Device) outcome is = after_read (faults.Pack packs.Device) outcome (λ e. cc) (λ e. cc) (inl refl) is
  of (faults.Node reasons.Device) outcome is = after_read (faults.Node reasons.Device) outcome (λ e. cc) (λ e. cc) (inr refl) is
  of (faults.Pack packs.NotAPack) outcome is = refused (faults.Pack packs.NotAPack) outcome (λ e. cc) (λ e. cc) is
  of (faults.Pack packs.OtherVersion) outcome is = refused (faults.Pack packs.OtherVersion) outcome (λ e. cc) (λ e. cc) is
  of (faults.Pack packs.Cut) outcome is = refused (faults.Pack packs.Cut) outcome (λ e. cc) (λ e. cc) is
  of (faults.Pack packs.BytesAfter) outcome is = refused (faults.Pack packs.BytesAfter) outcome (λ e. cc) (λ e. cc) is
  of (faults.Pack packs.Memory) outcome is = refused (faults.Pack packs.Memory) outcome (λ e. cc) (λ e. cc) is
  of (faults.Node reasons.Absent) outcome is = refused (faults.Node reasons.Absent) outcome (λ e. cc) (λ e. cc) is
  of (faults.Node reasons.Other) outcome is = refused (faults.Node reasons.Other) outcome (λ e. cc) (λ e. cc) is
  of (faults.Node reasons.Memory) outcome is = refused (faults.Node reasons.Memory) outcome (λ e. cc) (λ e. cc) is
  of (faults.Node reasons.TooMany) outcome is = refused (faults.Node reasons.TooMany) outcome (λ e. cc) (λ e. cc) is
  of (faults.Query fault) outcome is = refused (faults.Query fault) outcome (λ e. cc) (λ e. cc) is
  of faults.OtherRoot outcome is = refused faults.OtherRoot outcome (λ e. cc) (λ e. cc) is
  of (faults.Evaluation fault) outcome is = refused (faults.Evaluation fault) outcome (λ e. cc) (λ e. cc) is
  of faults.Work outcome is = refused faults.Work outcome (λ e. cc) (λ e. cc) is

  -- no document comes of a fault
  no_document_of : (P : List ℕ → Type 0) (fault : NotAnswered) (outcome : CallResult) → IsOf size spans fault outcome → IfDocument outcome P
  no_document_of P fault (Document document) is = absurd is
  no_document_of P fault (Missing table) is = tt
  no_document_of P fault (Refused told) is = tt
  no_document_of P fault NoMemory is = tt

  pub no_document : (P : List ℕ → Type 0) (fault : NotAnswered) (outcome : CallResult) → ComesOf size spans fault outcome → IfDocument outcome P
  no_document P fault outcome comes = no_document_of P fault outcome (of fault outcome comes)

  module _ (stated : Option Stated) (R : List ℕ → Type 0) (query root : List ℕ) (fault : NotAnswered) (explained : ExplainsBy stated R query root fault) where
    -- what is missing is wanted for a query that reads
    missing_of : (outcome : CallResult) → IsOf size spans fault outcome → IfMissing outcome (IsTableOfWanted size spans query)
    missing_of (Document document) is = tt
    missing_of (Missing table) is = record { readable = device_readable stated R query root fault is.1 explained; wanted = is.0.wanted; table_is = is.0.table_is; are_wanted = is.0.are_wanted }
    missing_of (Refused told) is = tt
    missing_of NoMemory is = tt

    pub missing : (outcome : CallResult) → ComesOf size spans fault outcome → IfMissing outcome (IsTableOfWanted size spans query)
    missing outcome comes = missing_of outcome (of fault outcome comes)

    -- what is refused is explained
    explained_of : (outcome : CallResult) → IsOf size spans fault outcome → IfRefused outcome (IsExplained stated R query root)
    explained_of (Document document) is = tt
    explained_of (Missing table) is = tt
    explained_of (Refused told) is = subst (IsExplained stated R query root) (sym is.0) (record { explained = explained; not_memory = is.1; not_output = is.2 })
    explained_of NoMemory is = tt

    pub explains : (outcome : CallResult) → ComesOf size spans fault outcome → IfRefused outcome (IsExplained stated R query root)
    explains outcome comes = explained_of outcome (of fault outcome comes)
