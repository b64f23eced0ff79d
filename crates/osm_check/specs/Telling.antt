-- What the teller owes: the query's meaning in a form, from the right proof, else the reason that the checker has for a no.
-- Source: this project.
use Rattle.std.specs.List.{Contains}
use Rattle.std.specs.Prelude.{◌≡◌, ◌⊎◌, ℕ, List, ⊤}
use Rattle.tree_node.specs.Outcomes.{Clash}
use Rattle.tree_node.specs.Shelves.{SameNodes}
use Rattle.osm_forms.specs.Forms.{form_text}
use Rattle.osm_forms.specs.declared.form.Form.{Form}
use Rattle.osm_keys.specs.Publications.{IsPublication, Publication, root_of}
use Rattle.ql_syntax.specs.Queries.{Reads}
use Rattle.ql_syntax.specs.Statements.{Statements}
use Rattle.ql_meaning.specs.Meanings.{Means_by}
use Rattle.ql_eval.specs.Asks.{IsNeeded}
use Rattle.ql_eval.specs.declared.evaluation.Report.{Report}
use Rattle.osm_prove.specs.Proved.{IsProofOf}
use Rattle.osm_check.specs.Verdicts.{IsReport, IsVerdict, IsWhole}
use Rattle.osm_check.specs.declared.told.Told.{Told}
use Rattle.osm_check.specs.declared.told.Told.TheVariants.{Answer, No}
use Rattle.osm_check.specs.declared.verdict.Verdict.TheVariants as verdicts
use Rattle.osm_check.specs.declared.why.Why.{Why}
use Rattle.osm_check.specs.declared.why.Why.TheVariants as whys

-- the query reads, the text is its meaning over the publication's objects in this form, and the proof is the proof of it
pub record IsProvedIn (p : Publication) (query : List ℕ) (form : Form) (text proof : List ℕ) : Type 0 where
  pub statements : Statements
  pub reads : Reads query statements
  pub means : Means_by (form_text form) p.objects statements text
  pub proof_is : IsProofOf p statements proof

-- the nodes are just those that the statements need over each publication with this root, and the text is their meaning
-- in this form, unless a node that is needed there and a different one of the proof have one digest
abbrev pub ShowsOfAll : (root : List ℕ) → Statements → Form → List (List ℕ) → (text : List ℕ) → Type 0
ShowsOfAll root statements form nodes text =
    (p : Publication) → IsPublication p → root ≡ root_of p
    → (SameNodes (IsNeeded p statements) (Contains nodes) × Means_by (form_text form) p.objects statements text) ⊎ Clash (IsNeeded p statements) (Contains nodes)

-- the text that a whole query and proof show, and what its walks count
pub record IsShown (query root : List ℕ) (form : Form) (proof text : List ℕ) (report : Report) : Type 0 where
  pub statements : Statements
  pub nodes : List (List ℕ)
  pub whole : IsWhole query proof statements nodes
  pub reported : IsReport nodes report
  pub shows : ShowsOfAll root statements form nodes text

-- the reason is one for which a proof shows nothing, and no difference of an answer
abbrev pub IsOfNoAnswer : Why → Type 0
IsOfNoAnswer (whys.AnswerDiffers byte) = ⊥
IsOfNoAnswer why = ⊤

-- what is told is right: a text is shown, and a reason is that of the verdict that is owed, whatever the answer is
abbrev pub IsTold : (query root : List ℕ) → Form → (proof : List ℕ) → Told → Type 0
IsTold query root form proof (Answer text report) = IsShown query root form proof text.items report
IsTold query root form proof (No why) = IsOfNoAnswer why × ((answer : List ℕ) → IsVerdict query root answer proof (verdicts.No why))

-- this text is told
abbrev pub TellsText : List ℕ → Told → Type 0
TellsText text (Answer told report) = told.items ≡ text
TellsText text (No why) = ⊥
