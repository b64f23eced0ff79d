-- From the one proof of a query its meaning is told, and nothing else.
use Rattle.std.proofs.Common.{◌≡◌, inl, inr, ℕ, List, Result, Ok, Err, IfOk, subst}
use Rattle.std.specs.List.{Contains}
use Rattle.tree_node.specs.Outcomes.{Clash}
use Rattle.osm_forms.specs.Forms.{form_text}
use Rattle.osm_forms.specs.declared.form.Form.{Form}
use Rattle.osm_keys.specs.Publications.{IsPublication, Publication, root_of}
use Rattle.ql_syntax.specs.Statements.{Statements}
use Rattle.ql_syntax.proofs.shared.QueryLaws.{one_query}
use Rattle.ql_meaning.specs.Meanings.{Means_by}
use Rattle.ql_meaning.proofs.shared.Laws.{has_meaning_by, one_meaning_by}
use Rattle.opl_codec.specs.Text.{text_of}
use Rattle.ql_eval.specs.Asks.{IsNeeded}
use Rattle.ql_eval.specs.declared.evaluation.Report.{Report}
use Rattle.osm_prove.specs.Proved.{IsProved}
use Rattle.osm_check.specs.Telling.{IsProvedIn, IsShown, IsTold, TellsText}
use Rattle.osm_check.specs.Verdicts.{IsWhole}
use Rattle.osm_check.specs.declared.told.Told.{Told}
use Rattle.osm_check.specs.declared.told.Told.TheVariants.{Answer, No}
use Rattle.osm_check.specs.declared.verdict.Verdict.{Verdict}
use Rattle.osm_check.specs.declared.verdict.Verdict.TheVariants as verdicts
use Rattle.osm_check.specs.declared.why.Why.{Why}
use Rattle.osm_check.proofs.OneVerdict as verdict
use Rattle.osm_check.proofs.OneVerdict.{no_twins, stands_among}

module _ (query root proof : List ℕ) (form : Form) (p : Publication) (is : IsPublication p) (root_is : root ≡ root_of p) where
  -- the meaning in OPL has the same proof
  pub in_opl : (text : List ℕ) → IsProvedIn p query form text proof → (opl : List ℕ) × IsProved p query opl proof
  in_opl text h =
      let opl = has_meaning_by text_of p.objects h.statements in
      (opl.0, record { statements = h.statements; reads = h.reads; means = opl.1; proof_is = h.proof_is })

  -- the nodes of the right proof leave no clash to speak of
  no_clash : (text : List ℕ) (statements : Statements) (nodes : List (List ℕ)) → IsProvedIn p query form text proof → IsWhole query proof statements nodes → Clash (IsNeeded p statements) (Contains nodes) → ⊥
  no_clash text statements nodes h whole (a, b, needed, stands, differ, same) =
      let one : statements ≡ h.statements = one_query query statements h.statements whole.reads h.reads in
      let here : Contains nodes a = stands_among proof a nodes whole.lists (h.proof_is.nodes, h.proof_is.lists, (h.proof_is.needed a).1 (subst (λ (s : Statements). IsNeeded p s a) one needed)) in
      differ (no_twins nodes whole.rising a b here stands same)

  -- a text that the right proof shows is the meaning
  pub shown_is : (text shown : List ℕ) (report : Report) → IsProvedIn p query form text proof → IsShown query root form proof shown report → shown ≡ text
  shown_is text shown report right h = elim (h.shows p is root_is) [
    | inl (just, means) ↦
        (let one : h.statements ≡ right.statements = one_query query h.statements right.statements h.whole.reads right.reads in
        one_meaning_by (form_text form) p.objects right.statements shown text is.set (subst (λ (s : Statements). Means_by (form_text form) p.objects s shown) one means) right.means)
    | inr clash ↦ absurd (no_clash text h.statements h.nodes right h.whole clash)
  ]

  -- the right proof isn't refused
  pub not_refused : (text : List ℕ) (why : Why) → IsProvedIn p query form text proof → IsTold query root form proof (No why) → ⊥
  not_refused text why right h =
      let opl = in_opl text right in
      let denied : Result Verdict (Unit {0}) = Ok (verdicts.No why) in
      verdict.honest query root opl.0 proof p is root_is denied opl.1 (h.1 opl.0)

  -- from the right proof the meaning is told
  pub honest : {E : Type 0} (text : List ℕ) (result : Result Told E) → IsProvedIn p query form text proof → IfOk result (IsTold query root form proof) → IfOk result (TellsText text)
  honest text (Ok (Answer told report)) right h = shown_is text told.items report right h
  honest text (Ok (No why)) right h = not_refused text why right h
  honest text (Err e) right h = tt
