-- What comes of a call, and how it is handed over.
-- Source: this project.
use Rattle.std.specs.Prelude.{◌≡◌, ◌≢◌, ◌++◌, ◌<◌, ◌≤◌, ℕ, List, None, Option, Some, ⊤, drop, length}
use Rattle.node_pack.specs.declared.fault.PackFault.TheVariants as packs
use Rattle.outside_shelf.specs.declared.refused.Refused.TheVariants as reasons
use Rattle.osm_packs.specs.Querying.{Explains, ExplainsInFiles}
use Rattle.osm_packs.specs.declared.not_answered.NotAnswered.{NotAnswered}
use Rattle.osm_packs.specs.declared.not_answered.NotAnswered.TheVariants as faults
use Rattle.osm_query_web.specs.Pieces.{AreWanted, IsPartsOf}
use Rattle.osm_query_web.specs.Spans.{table_of}
use Rattle.osm_query_web.specs.ToldFaults.{nothing, told_of}
use Rattle.osm_query_web.specs.declared.call_result.CallResult.{CallResult}
use Rattle.osm_query_web.specs.declared.call_result.CallResult.TheVariants.{Document, Missing, NoMemory, Refused}
use Rattle.osm_query_web.specs.declared.span.Span.{Span}
use Rattle.osm_query_web.specs.declared.stated.Stated.{Stated}
use Rattle.osm_query_web.specs.declared.told.Told.{Told}
use Rattle.osm_query_web.specs.declared.told.TheConstants.{MORE, NO, NO_MEMORY, TOO_SHORT, YES}

-- ---- outcomes

-- of the document, if there is one
abbrev pub IfDocument : CallResult → (List ℕ → Type 0) → Type 0
IfDocument (Document document) P = P document.items
IfDocument (Missing table) P = ⊤
IfDocument (Refused fault) P = ⊤
IfDocument NoMemory P = ⊤

-- of the table of what is missing, if there is one
abbrev pub IfMissing : CallResult → (List ℕ → Type 0) → Type 0
IfMissing (Document document) P = ⊤
IfMissing (Missing table) P = P table.items
IfMissing (Refused fault) P = ⊤
IfMissing NoMemory P = ⊤

-- of the reason why there is no answer, if it is told
abbrev pub IfRefused : CallResult → (NotAnswered → Type 0) → Type 0
IfRefused (Document document) P = ⊤
IfRefused (Missing table) P = ⊤
IfRefused (Refused fault) P = P fault
IfRefused NoMemory P = ⊤

-- why a fault comes: of a pack that is read so, or of files of which this is stated
abbrev pub ExplainsBy : Option Stated → (List ℕ → Type 0) → (query root : List ℕ) → NotAnswered → Type 0
ExplainsBy None Reads query root fault = Explains Reads query root fault
ExplainsBy (Some stated) Reads query root fault = ExplainsInFiles query root stated.root.0 fault

-- the files that are read, or what is stated of them, explain the fault, and it isn't out of memory
pub record IsExplained (stated : Option Stated) (Reads : List ℕ → Type 0) (query root : List ℕ) (fault : NotAnswered) : Type 0 where
  pub explained : ExplainsBy stated Reads query root fault
  pub not_memory : fault ≢ faults.Memory
  pub not_output : fault ≢ faults.Device

-- There is no answer from a pack with these pieces, or from files of which this is stated, for the reason that is told: it isn't out of
-- memory.
pub record IsReasonBy (stated : Option Stated) (size : ℕ) (spans : List Span) (bytes query root : List ℕ) (told : Told) : Type 0 where
  pub fault : NotAnswered
  pub told_is : told ≡ told_of fault
  pub explained : ExplainsBy stated (IsPartsOf size spans bytes) query root fault
  pub not_memory : fault ≢ faults.Memory
  pub not_output : fault ≢ faults.Device

-- the table lists parts of the pack that are to be fetched
pub record ListsWanted (size : ℕ) (spans : List Span) (table : List ℕ) : Type 0 where
  pub wanted : List Span
  pub table_is : table ≡ table_of wanted
  pub are_wanted : AreWanted size spans wanted

-- what comes of a read that failed: what is missing, or where nothing is the fault, unless memory runs out
abbrev pub IsAfterRead : (size : ℕ) (spans : List Span) → NotAnswered → CallResult → Type 0
IsAfterRead size spans fault (Document document) = ⊥
IsAfterRead size spans fault (Missing table) = ListsWanted size spans table.items
IsAfterRead size spans fault (Refused told) = told ≡ fault
IsAfterRead size spans fault NoMemory = ⊤

-- what comes of a fault
abbrev pub ComesOf : (size : ℕ) (spans : List Span) → NotAnswered → CallResult → Type 0
ComesOf size spans faults.Memory outcome = outcome ≡ NoMemory
ComesOf size spans faults.Device outcome = outcome ≡ NoMemory
ComesOf size spans (faults.Pack packs.Device) outcome = IsAfterRead size spans (faults.Pack packs.Device) outcome
ComesOf size spans (faults.Node reasons.Device) outcome = IsAfterRead size spans (faults.Node reasons.Device) outcome
ComesOf size spans (faults.Pack packs.NotAPack) outcome = outcome ≡ Refused (faults.Pack packs.NotAPack)
ComesOf size spans (faults.Pack packs.OtherVersion) outcome = outcome ≡ Refused (faults.Pack packs.OtherVersion)
ComesOf size spans (faults.Pack packs.Cut) outcome = outcome ≡ Refused (faults.Pack packs.Cut)
ComesOf size spans (faults.Pack packs.BytesAfter) outcome = outcome ≡ Refused (faults.Pack packs.BytesAfter)
ComesOf size spans (faults.Pack packs.Memory) outcome = outcome ≡ Refused (faults.Pack packs.Memory)
ComesOf size spans (faults.Node reasons.Absent) outcome = outcome ≡ Refused (faults.Node reasons.Absent)
ComesOf size spans (faults.Node reasons.Other) outcome = outcome ≡ Refused (faults.Node reasons.Other)
ComesOf size spans (faults.Node reasons.Memory) outcome = outcome ≡ Refused (faults.Node reasons.Memory)
ComesOf size spans (faults.Node reasons.TooMany) outcome = outcome ≡ Refused (faults.Node reasons.TooMany)
ComesOf size spans (faults.Query fault) outcome = outcome ≡ Refused (faults.Query fault)
ComesOf size spans faults.OtherRoot outcome = outcome ≡ Refused faults.OtherRoot
ComesOf size spans (faults.Evaluation fault) outcome = outcome ≡ Refused (faults.Evaluation fault)
ComesOf size spans faults.Work outcome = outcome ≡ Refused faults.Work

-- ---- handing over

-- the status, what is told beside it, how many bytes are handed over, and the room's bytes before and after
pub record Handed : Type 0 where
  pub status : ℕ
  pub told : Told
  pub len : ℕ
  pub before : List ℕ
  pub after : List ℕ

abbrev pub handed : (status : ℕ) (told : Told) (len : ℕ) (before after : List ℕ) → Handed
handed status told len before after = record { status = status; told = told; len = len; before = before; after = after }

-- How many bytes there are is told, and where the room is long enough, they stand at its front, the rest of the room stays, and
-- this is the status; where it isn't, all of the room stays, and the status says so.
pub record IsHandedOver (found : Handed) (status : ℕ) (bytes : List ℕ) : Type 0 where
  pub told_is : found.told ≡ nothing
  pub len_is : found.len ≡ length bytes
  pub fits : length bytes ≤ length found.before → (found.status ≡ status) × (found.after ≡ bytes ++ drop (length bytes) found.before)
  pub too_short : length found.before < length bytes → (found.status ≡ TOO_SHORT) × (found.after ≡ found.before)

-- nothing but this is told, with this status, and the room stays
pub record IsToldAlone (found : Handed) (status : ℕ) (told : Told) : Type 0 where
  pub status_is : found.status ≡ status
  pub told_is : found.told ≡ told
  pub len_is : found.len ≡ 0
  pub room_is : found.after ≡ found.before

-- the outcome is told and handed over
abbrev pub IsHanded : CallResult → Handed → Type 0
IsHanded (Document document) found = IsHandedOver found YES document.items
IsHanded (Missing table) found = IsHandedOver found MORE table.items
IsHanded (Refused fault) found = IsToldAlone found NO (told_of fault)
IsHanded NoMemory found = IsToldAlone found NO_MEMORY nothing
