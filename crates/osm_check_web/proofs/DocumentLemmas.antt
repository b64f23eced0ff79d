-- What a document that was handed over says of the teller's answer.
use Rattle.std.proofs.Common.{◌≡◌, ◌⊎◌, ◌≤◌, inl, inr, ℕ, List, arith, drop, length, refl, subst, sym, take}
use Rattle.std.proofs.lemmas.Bool.{cases_lt}
use Rattle.std.proofs.lemmas.List.{take_at}
use Rattle.std.specs.declared.alloc.Global.{Global}
use Rattle.std.specs.declared.vec.Vec.{Vec}
use Rattle.osm_forms.specs.Documents.{document_in}
use Rattle.osm_forms.specs.declared.form.Form.{Form}
use Rattle.osm_forms.specs.declared.form.Form.TheVariants as forms
use Rattle.osm_keys.specs.Publications.{Publication}
use Rattle.osm_check.specs.Telling.{IsProvedIn, TellsText}
use Rattle.osm_check.specs.declared.told.Told as answers
use Rattle.osm_check.specs.declared.told.Told.TheVariants.{Answer, No}
use Rattle.osm_check.specs.declared.verdict.Verdict.TheVariants as verdicts
use Rattle.osm_check.specs.declared.why.Why.{Why}
use Rattle.ql_eval.specs.declared.evaluation.Report.{Report}
use Rattle.osm_check_web.specs.ToldDocuments.{Handed, IsAnswered, IsHandedOver, IsProvedDocument, form_number}
use Rattle.osm_check_web.specs.ToldVerdicts.{told_of}
use Rattle.osm_check_web.specs.declared.told.TheConstants.{NO, TOO_SHORT, YES}

-- each form has a number of its own
pub same_form : (form other : Form) → form_number form ≡ form_number other → form ≡ other
same_form forms.Opl forms.Opl is = refl
same_form forms.Opl forms.Json is = cc
same_form forms.Opl forms.Xml is = cc
same_form forms.Json forms.Opl is = cc
same_form forms.Json forms.Json is = refl
same_form forms.Json forms.Xml is = cc
same_form forms.Xml forms.Opl is = cc
same_form forms.Xml forms.Json is = cc
same_form forms.Xml forms.Xml is = refl

pub form_number_at_most : (form : Form) → form_number form ≤ 2
form_number_at_most forms.Opl = omega arith
form_number_at_most forms.Json = omega arith
form_number_at_most forms.Xml = omega arith

-- a document that was handed over with a yes is the front of the room
pub at_front : (found : Handed) (document : List ℕ) → IsHandedOver found document → found.status ≡ YES → take found.size found.after ≡ document
at_front found document over said = elim (cases_lt (length found.before) (length document)) [
  | inl short ↦ (let status : found.status ≡ TOO_SHORT = (over.too_short short).0 in absurd (cc))
  | inr fits ↦
      (let after = (over.fits fits).1 in
      subst (λ (bytes : List ℕ). take found.size bytes ≡ document) (sym after) (take_at document (drop (length document) found.before) found.size (sym over.size_is)))
]

-- it has one of these statuses
pub one_status : (found : Handed) (document : List ℕ) → IsHandedOver found document → (found.status ≡ YES) ⊎ (found.status ≡ TOO_SHORT)
one_status found document over = elim (cases_lt (length found.before) (length document)) [
  | inl short ↦ inr (over.too_short short).0
  | inr fits ↦ inl (over.fits fits).0
]

module _ (form : Form) (found : Handed) where
  -- a document that was handed over with a yes is that of the text that was told
  pub headline : (p : Publication) (query proof : List ℕ) (C : Type 0) (answer : answers.Told) → IsAnswered form found answer → found.status ≡ YES
      → ((text : Vec ℕ Global) (report : Report) → answer ≡ Answer text report → IsProvedIn p query form text.items proof ⊎ C)
      → IsProvedDocument p query form proof (take found.size found.after) ⊎ C
  headline p query proof C (Answer text report) answered said proved = elim (proved text report refl) [
    | inl right ↦ inl (record { text = text.items; document_is = at_front found (document_in form text.items) answered.1 said; proved = right })
    | inr clash ↦ inr clash
  ]
  headline p query proof C (No why) answered said proved = let status : found.status ≡ NO = answered.0 in absurd (cc)

  -- the document is that of the text that was told
  pub honest : (text : List ℕ) (answer : answers.Told) → IsAnswered form found answer → TellsText text answer → IsHandedOver found (document_in form text)
  honest text (Answer told report) answered tells = subst (λ (bytes : List ℕ). IsHandedOver found (document_in form bytes)) tells answered.1
  honest text (No why) answered tells = absurd tells

  -- the reason that was told is told
  pub only : (why : Why) (answer : answers.Told) → IsAnswered form found answer → answer ≡ No why → (found.status ≡ NO) × (found.told ≡ told_of (verdicts.No why))
  only why answer answered is =
      let so = subst (λ (it : answers.Told). IsAnswered form found it) is answered in
      (so.0, so.1.told_is)

  -- an answer has one of these statuses
  pub statuses : (answer : answers.Told) → IsAnswered form found answer → (found.status ≡ YES) ⊎ ((found.status ≡ NO) ⊎ (found.status ≡ TOO_SHORT))
  statuses (Answer text report) answered = elim (one_status found (document_in form text.items) answered.1) [
    | inl said ↦ inl said
    | inr short ↦ inr (inr short)
  ]
  statuses (No why) answered = inr (inl answered.0)
