-- How the document of an answer is told in numbers, and handed over in a room of the caller's.
-- Source: this project.
use Rattle.std.specs.Prelude.{◌≡◌, ◌++◌, ℕ, ◌<◌, ◌≤◌, List, drop, length}
use Rattle.osm_forms.specs.Documents.{document_in}
use Rattle.osm_forms.specs.declared.form.Form.{Form}
use Rattle.osm_forms.specs.declared.form.Form.TheVariants as forms
use Rattle.osm_keys.specs.Publications.{Publication}
use Rattle.osm_check.specs.Telling.{IsProvedIn, IsTold}
use Rattle.osm_check.specs.declared.told.Told as answers
use Rattle.osm_check.specs.declared.told.Told.TheVariants.{Answer, No}
use Rattle.osm_check.specs.declared.verdict.Verdict.TheVariants as verdicts
use Rattle.osm_check_web.specs.ToldVerdicts.{told_of}
use Rattle.osm_check_web.specs.declared.told.Told.{Told}
use Rattle.osm_check_web.specs.declared.told.TheConstants.{NO, TOO_SHORT, YES}

-- the number of a form
abbrev pub form_number : Form → ℕ
form_number forms.Opl = 0
form_number forms.Json = 1
form_number forms.Xml = 2

-- ---- what a caller finds after a call

-- the status, what is told beside it, the size of the document, and the room's bytes before and after
pub record Handed : Type 0 where
  pub status : ℕ
  pub told : Told
  pub size : ℕ
  pub before : List ℕ
  pub after : List ℕ

abbrev pub handed : (status : ℕ) (told : Told) (size : ℕ) (before after : List ℕ) → Handed
handed status told size before after = record { status = status; told = told; size = size; before = before; after = after }

-- the document's size is told, and where the room is long enough, the document stands at its front and the rest of the room
-- stays; where it isn't, all of it stays
pub record IsHandedOver (found : Handed) (document : List ℕ) : Type 0 where
  pub size_is : found.size ≡ length document
  pub fits : length document ≤ length found.before → (found.status ≡ YES) × (found.after ≡ document ++ drop (length document) found.before)
  pub too_short : length found.before < length document → (found.status ≡ TOO_SHORT) × (found.after ≡ found.before)

-- nothing but this is told, and the room stays
pub record IsToldAlone (found : Handed) (told : Told) : Type 0 where
  pub told_is : found.told ≡ told
  pub size_is : found.size ≡ 0
  pub room_is : found.after ≡ found.before

-- the teller's answer is told and handed over: the document around its text in this form, or its reason
abbrev pub IsAnswered : Form → Handed → answers.Told → Type 0
IsAnswered form found (Answer text report) = (found.told ≡ told_of (verdicts.Yes report)) × IsHandedOver found (document_in form text.items)
IsAnswered form found (No why) = (found.status ≡ NO) × IsToldAlone found (told_of (verdicts.No why))

-- what is told and handed over is an answer that is right
pub record IsToldRight (query root : List ℕ) (form : Form) (proof : List ℕ) (found : Handed) : Type 0 where
  pub answer : answers.Told
  pub right : IsTold query root form proof answer
  pub answered : IsAnswered form found answer

-- the document is that of the query's meaning in this form, and the proof the one proof of the query
pub record IsProvedDocument (p : Publication) (query : List ℕ) (form : Form) (proof document : List ℕ) : Type 0 where
  pub text : List ℕ
  pub document_is : document ≡ document_in form text
  pub proved : IsProvedIn p query form text proof
