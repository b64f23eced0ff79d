-- What a mirror's reply shows of a query under a root, whatever the reply is.
-- Source: this project.
use Rattle.std.specs.Prelude.{◌≡◌, ◌≢◌, ℕ, List, None, Option, ⊤}
use Rattle.ql_eval.specs.declared.evaluation.Report.{Report}
use Rattle.tree_node.specs.Outcomes.{Clash}
use Rattle.osm_keys.specs.Publications.{IsNodeIn, IsPublication, Publication, root_of}
use Rattle.ql_syntax.specs.Queries.{HasFault}
use Rattle.osm_prove.specs.Budgets.{IsTooMuch, IsWithinBudget, IsWorkOf}
use Rattle.osm_check.specs.Telling.{IsShown, IsTold}
use Rattle.osm_check.specs.Verdicts.{IsReadable, IsRisingProof, StandsIn}
use Rattle.osm_check.specs.declared.told.Told.TheVariants.{No}
use Rattle.osm_check.specs.declared.why.Why.{Why}
use Rattle.osm_check.specs.declared.why.Why.TheVariants as whys
use Rattle.osm_forms.specs.Forms.{form_text}
use Rattle.osm_forms.specs.declared.form.Form.{Form}
use Rattle.mirror_answer.specs.declared.mirror_fault.MirrorFault.{MirrorFault}
use Rattle.mirror_answer.specs.declared.mirror_fault.MirrorFault.TheVariants.{OtherRoot, Proof, Work}
use Rattle.mirror_answer.specs.declared.shown.Shown.{Shown}
use Rattle.mirror_answer.specs.declared.shown.Shown.TheVariants.{Answer, Refused, Unread}

-- what a client asks for, the root that it holds, and the budget that its check has, if there is one
pub record Wanted : Type 0 where
  pub query : List ℕ
  pub root : List ℕ
  pub form : Form
  pub most : Option ℕ

-- the reason is one for which a proof shows nothing, of a query that reads
abbrev pub IsOfProof : Why → Type 0
IsOfProof (whys.QueryRefused fault) = ⊥
IsOfProof (whys.AnswerDiffers byte) = ⊥
IsOfProof why = ⊤

-- there is a budget, the query reads and the proof lists nodes by rising digest; and under the root of a publication the
-- query's work is more than the budget has, unless a node of it and one that stands in the proof are two with one digest
pub record IsPassed (w : Wanted) (proof : List ℕ) : Type 0 where
  pub budget : w.most ≢ None
  pub readable : IsReadable w.query
  pub rising : IsRisingProof proof
  pub over : (p : Publication) → IsPublication p → w.root ≡ root_of p → ¬ Clash (IsNodeIn p) (StandsIn proof)
      → IsTooMuch (IsWorkOf (form_text w.form) p w.query) w.most

-- a proof that is refused is told by its reason where the reply names the root that the client holds
abbrev pub IsFaultOf : Wanted → (named proof : List ℕ) → MirrorFault → Type 0
IsFaultOf w named proof (Proof why) = (named ≡ w.root) × IsOfProof why × IsTold w.query w.root w.form proof (No why)
IsFaultOf w named proof OtherRoot = (named ≢ w.root) × ((why : Why) × IsOfProof why × IsTold w.query w.root w.form proof (No why))
IsFaultOf w named proof Work = IsPassed w proof
IsFaultOf w named proof fault = ⊥

-- the proof shows the text; and under the root of a publication the query's work is within the budget, with the same
-- exception
pub record IsShownWithin (w : Wanted) (proof text : List ℕ) (report : Report) : Type 0 where
  pub shown : IsShown w.query w.root w.form proof text report
  pub within : (p : Publication) → IsPublication p → w.root ≡ root_of p → ¬ Clash (IsNodeIn p) (StandsIn proof)
      → IsWithinBudget (IsWorkOf (form_text w.form) p w.query) w.most

-- what is shown is right: an answer is shown by the proof, and a fault is true of the query, or of the reply
abbrev pub IsRightly : Wanted → (named proof : List ℕ) → Shown → Type 0
IsRightly w named proof (Answer text) = (report : Report) × IsShownWithin w proof text.items report
IsRightly w named proof (Unread fault) = HasFault w.query fault
IsRightly w named proof (Refused fault) = IsFaultOf w named proof fault

-- this text is shown
abbrev pub ShowsText : List ℕ → Shown → Type 0
ShowsText text (Answer shown) = shown.items ≡ text
ShowsText text (Unread fault) = ⊥
ShowsText text (Refused fault) = ⊥
