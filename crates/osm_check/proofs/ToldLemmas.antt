-- What is told says of a publication, and that nothing else is told.
use Rattle.std.proofs.Common.{◌≡◌, ◌⊎◌, inl, inr, ℕ, List, [], Some, Result, Ok, Err, IfOk, ap, subst}
use Rattle.std.specs.declared.alloc.Global.{Global}
use Rattle.std.specs.declared.vec.Vec.{Vec}
use Rattle.tree_node.specs.Outcomes.{Clash}
use Rattle.tree_walk.specs.declared.fault.WalkFault.TheVariants as walks
use Rattle.osm_forms.specs.declared.form.Form.{Form}
use Rattle.osm_keys.specs.Publications.{IsNodeIn, IsPublication, Publication, root_of}
use Rattle.ql_syntax.specs.Statements.{Statements}
use Rattle.ql_eval.specs.declared.evaluation.Report.{Report}
use Rattle.ql_eval.specs.declared.fault.EvalFault.{EvalFault}
use Rattle.ql_eval.specs.declared.fault.EvalFault.TheVariants as faults
use Rattle.ql_eval.specs.declared.opening.ManifestFault.TheVariants as openings
use Rattle.osm_check.specs.Telling.{IsOfNoAnswer, IsProvedIn, IsShown, IsTold}
use Rattle.osm_check.specs.Verdicts.{IsWhole, StandsIn, TellsOf}
use Rattle.osm_check.specs.declared.told.Told.{Told}
use Rattle.osm_check.specs.declared.told.Told.TheVariants.{Answer, No}
use Rattle.osm_check.specs.declared.verdict.Verdict.TheVariants as verdicts
use Rattle.osm_check.specs.declared.why.Why.{Why}
use Rattle.osm_check.specs.declared.why.Why.TheVariants.{NodeMissing, NodeMalformed, NodesDisagree, EntriesDisagree}
use Rattle.osm_check.specs.internal.Judging.{why_of}
use Rattle.osm_check.specs.internal.Shown.{IsToldFrom}
use Rattle.osm_check.proofs.Judgements.{owed}
use Rattle.osm_prove.proofs.shared.NeededNodes.{needed_in}
use Rattle.osm_check.proofs.shared.HonestLemmas.{in_opl}
use Rattle.osm_check.proofs.OneVerdict as verdict
use Rattle.osm_check.proofs.OneVerdict.{one_verdict}

-- no refused evaluation is a difference of an answer
pub why_of_no_answer : (fault : EvalFault) (why : Why) → why_of fault ≡ Some why → IsOfNoAnswer why
why_of_no_answer (faults.Walk walks.Missing) why is = let same : NodeMissing ≡ why = cc in subst IsOfNoAnswer same tt
why_of_no_answer (faults.Manifest openings.Missing) why is = let same : NodeMissing ≡ why = cc in subst IsOfNoAnswer same tt
why_of_no_answer (faults.Walk (walks.Malformed fault)) why is = let same : NodeMalformed ≡ why = cc in subst IsOfNoAnswer same tt
why_of_no_answer (faults.Manifest openings.Malformed) why is = let same : NodeMalformed ≡ why = cc in subst IsOfNoAnswer same tt
why_of_no_answer (faults.Walk walks.WrongTreeOrLevel) why is = let same : NodesDisagree ≡ why = cc in subst IsOfNoAnswer same tt
why_of_no_answer (faults.Walk walks.Disagrees) why is = let same : NodesDisagree ≡ why = cc in subst IsOfNoAnswer same tt
why_of_no_answer faults.Form why is = let same : EntriesDisagree ≡ why = cc in subst IsOfNoAnswer same tt
why_of_no_answer faults.Absent why is = let same : EntriesDisagree ≡ why = cc in subst IsOfNoAnswer same tt
why_of_no_answer (faults.Walk walks.Memory) why is = absurd (cc)
why_of_no_answer (faults.Manifest openings.Memory) why is = absurd (cc)
why_of_no_answer faults.Memory why is = absurd (cc)
why_of_no_answer faults.Work why is = absurd (cc)

-- what is told from the nodes of a proof that was read
pub told_owed : {E : Type 0} (query root proof : List ℕ) (form : Form) (statements : Statements) (nodes : List (List ℕ)) (result : Result Told E) → IsWhole query proof statements nodes
    → IfOk result (IsToldFrom root statements form nodes) → IfOk result (IsTold query root form proof)
told_owed query root proof form statements nodes (Ok (Answer text report)) whole told = record { statements = statements; nodes = nodes; whole = whole; reported = told.0; shows = told.1 }
told_owed query root proof form statements nodes (Ok (No why)) whole told = (told.0, λ answer. owed query root answer proof statements nodes (verdicts.No why) whole (told.1 answer))
told_owed query root proof form statements nodes (Err e) whole told = tt

module _ (query root proof : List ℕ) (form : Form) (p : Publication) (is : IsPublication p) (root_is : root ≡ root_of p) where
  shown : (text : List ℕ) (report : Report) → IsShown query root form proof text report → IsProvedIn p query form text proof ⊎ Clash (IsNodeIn p) (StandsIn proof)
  shown text report h = elim (h.shows p is root_is) [
    | inl (just, means) ↦ inl (record { statements = h.statements; reads = h.whole.reads; means = means; proof_is = record { nodes = h.nodes; lists = h.whole.lists; rising = h.whole.rising; needed = just } })
    | inr (a, b, needed, stands, differ, same) ↦ inr (a, b, needed_in p h.statements a needed, (h.nodes, h.whole.lists, stands), differ, same)
  ]

  -- a text that is told
  pub headline : {E : Type 0} (text : Vec ℕ Global) (report : Report) (result : Result Told E) → result ≡ Ok (Answer text report) → IfOk result (IsTold query root form proof)
      → IsProvedIn p query form text.items proof ⊎ Clash (IsNodeIn p) (StandsIn proof)
  headline {E} text report result said told = shown text.items report (subst (λ (r : Result Told E). IfOk r (IsTold query root form proof)) said told)

  -- the reason that is owed is told
  pub only_told : {E : Type 0} (why : Why) (result : Result Told E) → ((answer : List ℕ) → TellsOf p query answer proof (verdicts.No why)) → IfOk result (IsTold query root form proof)
      → IfOk result (λ told. told ≡ No why) ⊎ Clash (IsNodeIn p) (StandsIn proof)
  only_told why (Ok (Answer text report)) tells h = elim (shown text.items report h) [
    | inl proved ↦ (let opl = in_opl query root proof form p is root_is text.items proved in absurd (one_verdict query opl.0 proof p is (verdicts.Yes report) (verdicts.No why) opl.1 (tells opl.0)))
    | inr clash ↦ inr clash
  ]
  only_told why (Ok (No other)) tells h = elim (verdict.told query root [] proof p is root_is (verdicts.No other) (h.1 [])) [
    | inl so ↦ inl (ap No (one_verdict query [] proof p is (verdicts.No other) (verdicts.No why) so (tells [])))
    | inr clash ↦ inr clash
  ]
  only_told why (Err e) tells h = inl tt
