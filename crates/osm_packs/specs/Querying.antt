-- What is answered from a pack, and why nothing is.
-- Source: this project.
use Rattle.std.specs.Prelude.{◌≡◌, ◌≢◌, ◌⊎◌, ℕ, List, Option, Result, Ok, Err, ⊤, length, take}
use Rattle.std.specs.Io.KnownBytes.{Appends}
use Rattle.byte_io.specs.Written.{AppendsFront}
use Rattle.osm_forms.specs.Documents.{document_in}
use Rattle.osm_forms.specs.Forms.{form_text}
use Rattle.osm_forms.specs.declared.form.Form.{Form}
use Rattle.osm_keys.specs.Publications.{Publication}
use Rattle.ql_syntax.specs.Queries.{HasFault, Reads}
use Rattle.ql_syntax.specs.Statements.{Statements}
use Rattle.ql_meaning.specs.Meanings.{Means_by}
use Rattle.ql_eval.specs.Asks.{IsNeeded}
use Rattle.ql_eval.specs.declared.fault.EvalFault.TheVariants as evaluations
use Rattle.osm_prove.specs.Budgets.{IsTooMuch, IsWithinBudget}
use Rattle.osm_check.specs.Verdicts.{IsReadable}
use Rattle.outside_shelf.specs.SecondPreimages.{HaveSecondPreimage}
use Rattle.outside_shelf.specs.declared.refused.Refused.{Refused}
use Rattle.outside_shelf.specs.declared.refused.Refused.TheVariants as reasons
use Rattle.node_pack.specs.Headers.{header_at}
use Rattle.node_pack.specs.declared.fault.PackFault.{PackFault}
use Rattle.node_pack.specs.declared.fault.PackFault.TheVariants as packs
use Rattle.node_pack.specs.declared.header.Header.{Header}
use Rattle.osm_commands.specs.declared.status.Status.{Status}
use Rattle.osm_commands.specs.declared.status.Status.TheVariants.{Failed, No, Refused as Told}
use Rattle.osm_packs.specs.declared.not_answered.NotAnswered.{NotAnswered}
use Rattle.osm_packs.specs.declared.not_answered.NotAnswered.TheVariants.{Device, Evaluation, Memory, Node, OtherRoot, Pack, Query, Work}

-- ---- answers

-- the query reads, and this is the text of its meaning over the publication's objects, in this form
pub record IsTextOf (p : Publication) (form : Form) (query text : List ℕ) : Type 0 where
  pub statements : Statements
  pub reads : Reads query statements
  pub means : Means_by (form_text form) p.objects statements text

-- a node that the query needs and another byte string have one digest
pub record Clashes (p : Publication) (query : List ℕ) : Type 0 where
  pub statements : Statements
  pub reads : Reads query statements
  pub clash : HaveSecondPreimage (IsNeeded p statements)

-- the text is right, unless nodes clash
abbrev pub IsRight : Publication → Form → (query text : List ℕ) → Type 0
IsRight p form query text = IsTextOf p form query text ⊎ Clashes p query

-- the output has gained the document of a right text
abbrev pub HasAnswered : Publication → Form → (query : List ℕ) → (old new : Option (List ℕ)) → Type 0
HasAnswered p form query old new = (text : List ℕ) × IsRight p form query text × Appends old new (document_in form text)

-- the output has gained a beginning of it
abbrev pub HasBegun : Publication → Form → (query : List ℕ) → (old new : Option (List ℕ)) → Type 0
HasBegun p form query old new = (text : List ℕ) × IsRight p form query text × AppendsFront old new (document_in form text)

-- there is an answer only where the work is within the budget, and the query is refused for the budget only where it is too
-- much
abbrev pub KeepsBudget : {A : Type 0} → (ℕ → Type 0) → Option ℕ → Result A NotAnswered → Type 0
KeepsBudget IsWork most (Ok given) = IsWithinBudget IsWork most
KeepsBudget IsWork most (Err Device) = IsWithinBudget IsWork most
KeepsBudget IsWork most (Err Work) = IsTooMuch IsWork most
KeepsBudget IsWork most (Err (Query fault)) = ⊤
KeepsBudget IsWork most (Err (Pack fault)) = ⊤
KeepsBudget IsWork most (Err OtherRoot) = ⊤
KeepsBudget IsWork most (Err (Node reason)) = ⊤
KeepsBudget IsWork most (Err (Evaluation fault)) = ⊤
KeepsBudget IsWork most (Err Memory) = ⊤

-- ---- faults

-- the header of the file that is read has this fault
abbrev pub HasFaultyHeader : (List ℕ → Type 0) → PackFault → Type 0
HasFaultyHeader Reads fault = (file : List ℕ) → Reads file → header_at (take 60 file) (length file) ≡ Err fault

-- the header of the file that is read states another root
abbrev pub HasOtherRoot : (List ℕ → Type 0) → List ℕ → Type 0
HasOtherRoot Reads root = (file : List ℕ) → Reads file → (header : Header) × (header_at (take 60 file) (length file) ≡ Ok header) × (header.root.0 ≢ root)

-- the header of the file that is read states this root
abbrev pub HasRoot : (List ℕ → Type 0) → List ℕ → Type 0
HasRoot Reads root = (file : List ℕ) → Reads file → (header : Header) × (header_at (take 60 file) (length file) ≡ Ok header) × (header.root.0 ≡ root)

-- Why each fault comes: the query is looked at first, then the header of the file, then its root, and then the nodes.
-- `Reads` says what the file's device reads.
abbrev pub Explains : (List ℕ → Type 0) → (query root : List ℕ) → NotAnswered → Type 0
Explains Reads query root (Query fault) = HasFault query fault
Explains Reads query root (Pack fault) = IsReadable query × (fault ≢ packs.Memory) × ((fault ≡ packs.Device) ⊎ HasFaultyHeader Reads fault)
Explains Reads query root OtherRoot = IsReadable query × HasOtherRoot Reads root
Explains Reads query root (Node reason) = IsReadable query × HasRoot Reads root × (reason ≢ reasons.Memory)
Explains Reads query root (Evaluation fault) = IsReadable query × HasRoot Reads root × (fault ≢ evaluations.Memory) × (fault ≢ evaluations.Work)
Explains Reads query root Work = IsReadable query × HasRoot Reads root
Explains Reads query root Memory = ⊤
Explains Reads query root Device = IsReadable query × HasRoot Reads root

-- The same where files are read as one, of which this root is stated: no header is looked at.
abbrev pub ExplainsInFiles : (query root stated : List ℕ) → NotAnswered → Type 0
ExplainsInFiles query root stated (Query fault) = HasFault query fault
ExplainsInFiles query root stated (Pack fault) = IsReadable query × (stated ≡ root) × (fault ≡ packs.Device)
ExplainsInFiles query root stated OtherRoot = IsReadable query × (stated ≢ root)
ExplainsInFiles query root stated (Node reason) = IsReadable query × (stated ≡ root) × (reason ≢ reasons.Memory)
ExplainsInFiles query root stated (Evaluation fault) = IsReadable query × (stated ≡ root) × (fault ≢ evaluations.Memory) × (fault ≢ evaluations.Work)
ExplainsInFiles query root stated Work = IsReadable query × (stated ≡ root)
ExplainsInFiles query root stated Memory = ⊤
ExplainsInFiles query root stated Device = IsReadable query × (stated ≡ root)

-- ---- how the program ends

abbrev pub status_of_pack : PackFault → Status
status_of_pack packs.NotAPack = Told
status_of_pack packs.OtherVersion = Told
status_of_pack packs.Cut = Told
status_of_pack packs.BytesAfter = Told
status_of_pack packs.Device = Failed
status_of_pack packs.Memory = Failed

abbrev pub status_of_reason : Refused → Status
status_of_reason reasons.Absent = No
status_of_reason reasons.Other = No
status_of_reason reasons.Device = Failed
status_of_reason reasons.Memory = Failed
status_of_reason reasons.TooMany = Failed

abbrev pub status_of : NotAnswered → Status
status_of (Query fault) = Told
status_of (Pack fault) = status_of_pack fault
status_of OtherRoot = No
status_of (Node reason) = status_of_reason reason
status_of (Evaluation fault) = No
status_of Work = Failed
status_of Memory = Failed
status_of Device = Failed
