-- What a call hands over: the document of an answer, or a table of what is missing of the pack; and why it hands over nothing.
-- Source: this project.
use Rattle.std.specs.Prelude.{◌≡◌, ◌≢◌, ◌⊎◌, ℕ, List}
use Rattle.osm_forms.specs.Documents.{document_in}
use Rattle.osm_forms.specs.declared.form.Form.{Form}
use Rattle.osm_forms.specs.declared.form.Form.TheVariants as forms
use Rattle.osm_keys.specs.Publications.{Publication}
use Rattle.osm_check.specs.Verdicts.{IsReadable}
use Rattle.osm_packs.specs.Querying.{Clashes, Explains, ExplainsInFiles, IsTextOf}
use Rattle.osm_packs.specs.declared.not_answered.NotAnswered.{NotAnswered}
use Rattle.osm_packs.specs.declared.not_answered.NotAnswered.TheVariants as faults
use Rattle.osm_query_web.specs.Pieces.{AreWanted, IsPartsOf}
use Rattle.osm_query_web.specs.Spans.{table_of}
use Rattle.osm_query_web.specs.ToldFaults.{told_of}
use Rattle.osm_query_web.specs.declared.span.Span.{Span}
use Rattle.osm_query_web.specs.declared.told.Told.{Told}

-- the number of a form
abbrev pub form_number : Form → ℕ
form_number forms.Opl = 0
form_number forms.Json = 1
form_number forms.Xml = 2

-- ---- what is handed over

-- the document of the query's meaning over the publication's set, in this form
pub record IsDocumentOf (p : Publication) (form : Form) (query document : List ℕ) : Type 0 where
  pub text : List ℕ
  pub is_text : IsTextOf p form query text
  pub document_is : document ≡ document_in form text

-- it is the right document, unless a node that the query needs and another byte string have one digest
abbrev pub IsAnswerOf : Publication → Form → (query document : List ℕ) → Type 0
IsAnswerOf p form query document = IsDocumentOf p form query document ⊎ Clashes p query

-- The query reads, and this is the table of parts of the pack that are to be fetched for it: the pack has so many bytes, and
-- pieces of it stand in these spans.
pub record IsTableOfWanted (size : ℕ) (spans : List Span) (query table : List ℕ) : Type 0 where
  pub readable : IsReadable query
  pub wanted : List Span
  pub table_is : table ≡ table_of wanted
  pub are_wanted : AreWanted size spans wanted

-- ---- what is told

-- There is no answer from a pack with these pieces for the reason that is told: it isn't out of memory.
pub record IsReasonOf (size : ℕ) (spans : List Span) (bytes query root : List ℕ) (told : Told) : Type 0 where
  pub fault : NotAnswered
  pub told_is : told ≡ told_of fault
  pub explained : Explains (IsPartsOf size spans bytes) query root fault
  pub not_memory : fault ≢ faults.Memory
  pub not_output : fault ≢ faults.Device

-- the same of files of which this root is stated
pub record IsReasonInFiles (stated query root : List ℕ) (told : Told) : Type 0 where
  pub fault : NotAnswered
  pub told_is : told ≡ told_of fault
  pub explained : ExplainsInFiles query root stated fault
  pub not_memory : fault ≢ faults.Memory
  pub not_output : fault ≢ faults.Device
