use Rattle.std.proofs.Common.{◌≡◌, Err, List, ap, inl, subst, sym, ◌∙◌}
use Rattle.std.proofs.lemmas.Result.{err_from_is_err_and}
use Rattle.tree_node.specs.declared.part.Part.{Part}
use Rattle.tree_node.proofs.shared.OutcomeLaws.{just_needed}
use Rattle.osm_forms.specs.Forms.{form_text}
use Rattle.osm_forms.specs.declared.form.Form.TheVariants.{Opl}
use Rattle.ql_eval.specs.Work.{WorkOfQuery}
use Rattle.ql_eval.specs.declared.fault.EvalFault.{EvalFault}
use Rattle.ql_eval.specs.declared.fault.EvalFault.TheVariants as faults
use Rattle.ql_syntax.specs.StatementViews.{statements_of}
use Rattle.osm_prove.specs.Proofs.{FitsProof, listing, nodes_of}
use Rattle.outside_proof.specs.Budgets.{KeepsBudget}
use Rattle.outside_proof.specs.Faults.{IsFromOutside}
use Rattle.outside_proof.specs.declared.fault.OutsideFault.{OutsideFault}
use Rattle.outside_proof.specs.declared.prover.AnswerAndProof.{AnswerAndProof}
use Rattle.outside_proof.proofs.FaultLemmas.{err_keeps, from_outside}
use Rattle.outside_proof.proofs.Proving.{needed_fit, proof_of, rising_listed}
use Rattle.outside_proof.proofs.prover.prove_over.Goals as goal

pub returns-in-Err-clause-only : goal.returns-in-Err-clause-only
returns-in-Err-clause-only g c = λ p is root none.
    subst IsFromOutside (sym c.refusal.ensures) (from_outside _ _ c.in-Err.fault c.reason.result (c.in-Err.ensures.only p is root none))

pub returns-in-Err-clause-budget : goal.returns-in-Err-clause-budget
returns-in-Err-clause-budget g c = λ p is root none.
    let IsWork = WorkOfQuery (form_text Opl) p (statements_of c.args.query.now) in
    subst (λ (fault : OutsideFault). KeepsBudget {A = AnswerAndProof} IsWork c.args.most (Err fault)) (sym c.refusal.ensures)
    (err_keeps AnswerAndProof IsWork c.args.most c.in-Err.fault c.reason.result (λ (work : c.in-Err.fault ≡ faults.Work). c.in-Err.ensures.too_much p is root none (ap (λ (f : EvalFault). Err f) work)))

pub returns-in_err-proof-clause-only : goal.returns-in_err-proof-clause-only
returns-in_err-proof-clause-only g c =
    let told = err_from_is_err_and c.from_residual-in_err-proof.result c.from_residual-in_err-proof.ensures.1 in
    λ p is root none.
    let needed = just_needed c.requires.unused (c.in-Ok.ensures.needed p is root none) (λ x has. has) (λ x has. has) in
    let fits = needed_fit p (statements_of c.args.query.now) (g.S.Shelf.used c.evaluate_over.new.shelf) c.in_ok-parts.parts.items needed c.in_ok-parts.ensures.used c.in_ok-parts.ensures.rising is in
    let memory = c.in_err-proof.ensures.only (subst (λ (ps : List Part). FitsProof (nodes_of ps)) (sym c.deref.ensures.value) fits) in
    rw (told.1, told.2) (inl memory)

pub returns-clause-proved : goal.returns-clause-proved
returns-clause-proved g c = λ p is root none.
    let needed = just_needed c.requires.unused (c.in-Ok.ensures.needed p is root none) (λ x has. has) (λ x has. has) in (
      c.in-Ok.ensures.means p is root none,
      proof_of p (statements_of c.args.query.now) (g.S.Shelf.used c.evaluate_over.new.shelf) c.in_ok-parts.parts.items needed c.in_ok-parts.ensures.used c.in_ok-parts.ensures.rising c.in_ok-proof.proof.items
          (subst (λ (ps : List Part). FitsProof (nodes_of ps)) c.deref.ensures.value c.in_ok-proof.ensures.fits)
          (c.in_ok-proof.ensures.listed ∙ ap (λ (ps : List Part). listing (nodes_of ps)) c.deref.ensures.value),
    )

pub returns-clause-listed : goal.returns-clause-listed
returns-clause-listed g c =
    rising_listed c.in_ok-parts.parts.items c.in_ok-proof.proof.items c.in_ok-parts.ensures.rising
    (subst (λ (ps : List Part). FitsProof (nodes_of ps)) c.deref.ensures.value c.in_ok-proof.ensures.fits)
    (c.in_ok-proof.ensures.listed ∙ ap (λ (ps : List Part). listing (nodes_of ps)) c.deref.ensures.value)
