-- What was written is a response to a query.
use Rattle.std.proofs.Common.{◌≡◌, ◌⊎◌, ◌++◌, ℕ, Bool, false, true, List, ap, inl, inr, refl, subst, sym}
use Rattle.std.specs.Prelude.{Option, Some, None, Result, Err}
use Rattle.std.proofs.lemmas.Bool.{true≢false}
use Rattle.osm_forms.specs.Forms.{form_text}
use Rattle.osm_forms.specs.declared.form.Form.TheVariants.{Opl}
use Rattle.osm_keys.specs.Publications.{Publication, root_of}
use Rattle.osm_prove.specs.Budgets.{IsTooMuch, IsWithinBudget, IsWorkOf}
use Rattle.osm_prove.specs.Proved.{IsAnswer, IsProved}
use Rattle.ql_syntax.specs.Queries.{HasFault, Reads}
use Rattle.ql_syntax.specs.Statements.{Statements}
use Rattle.ql_syntax.specs.declared.fault.QlFault.{QlFault}
use Rattle.ql_syntax.proofs.shared.QueryLaws.{one_of_both}
use Rattle.http_messages.specs.ResponseTexts.{Response, response_text}
use Rattle.osm_gate.specs.Mirrors.{KeepsBudget}
use Rattle.osm_gate.specs.Responses.{ByQueryOn, GivesAt, GivesOn, GivesWithin, OrFails, TellsFailure, checked_body, failed_response, fault_text, ok_response, refusal, too_much_response}
use Rattle.osm_gate.specs.Terms.{Terms}
use Rattle.osm_gate.specs.declared.mirror_fault.MirrorFault.{MirrorFault}
use Rattle.osm_gate.specs.declared.mirror_fault.MirrorFault.TheVariants as faults
use Rattle.osm_gate.specs.declared.endpoint.Endpoint.{Endpoint}
use Rattle.osm_gate.specs.declared.endpoint.Endpoint.TheVariants.{Answer, AnswerWithProof}
use Rattle.osm_gate.specs.declared.reply.Reply.{Reply}
use Rattle.osm_gate.specs.internal.Adding.{AddsFault, AddsResponse}

-- ---- budgets

given_within : (most : Option ℕ) (endpoint : Endpoint) (closes : Bool) (p : Publication) (query : List ℕ) (r : Response) → GivesAt endpoint closes p query r
    → IsWithinBudget (IsWorkOf (form_text Opl) p query) most → GivesWithin most endpoint closes p query r
given_within None endpoint closes p query r gives within = gives
given_within (Some most) endpoint closes p query r gives within = inl (gives, within)

too_much_within : (most : Option ℕ) (endpoint : Endpoint) (closes : Bool) (p : Publication) (query : List ℕ) (statements : Statements) → Reads query statements
    → IsTooMuch (IsWorkOf (form_text Opl) p query) most → (most ≡ None → ⊥) → GivesWithin most endpoint closes p query (too_much_response closes)
too_much_within None endpoint closes p query statements reads much some = absurd (some refl)
too_much_within (Some most) endpoint closes p query statements reads much some = inr (statements, reads, much, refl)

-- ---- devices

or_fails : (fails closes : Bool) (query : List ℕ) (r : Response) (Given : Type 0) → Given → OrFails fails closes query r Given
or_fails false closes query r Given given = given
or_fails true closes query r Given given = inl given

failed : (fails closes : Bool) (query : List ℕ) (r : Response) (Given : Type 0) → fails ≡ true → TellsFailure closes query r → OrFails fails closes query r Given
failed false closes query r Given may tells = absurd (true≢false (sym may))
failed true closes query r Given may tells = inr tells

-- ---- what was added

module _ (terms : Terms) (reply : Reply) (p : Publication) (query old new : List ℕ) where
  given_on : (r : Response) → GivesWithin terms.most reply.endpoint reply.closes p query r → GivesOn terms reply.endpoint reply.closes p query r
  given_on r gives = or_fails terms.may_fail reply.closes query r (GivesWithin terms.most reply.endpoint reply.closes p query r) gives

  given_added : (endpoint : Endpoint) (r : Response) → reply.endpoint ≡ endpoint → GivesAt endpoint reply.closes p query r → IsWithinBudget (IsWorkOf (form_text Opl) p query) terms.most
      → new ≡ old ++ response_text r → AddsResponse (ByQueryOn terms reply p (Some query)) old new
  given_added endpoint r at gives within added =
      let meant = subst (λ (endpoint : Endpoint). GivesAt endpoint reply.closes p query r) (sym at) gives in
      (r, inr (given_on r (given_within terms.most reply.endpoint reply.closes p query r meant within)), added)

  pub answer_added : (root answer : List ℕ) → reply.endpoint ≡ Answer → (root ≡ root_of p) × IsAnswer p query answer → IsWithinBudget (IsWorkOf (form_text Opl) p query) terms.most
      → new ≡ old ++ response_text (ok_response reply.closes root false answer) → AddsResponse (ByQueryOn terms reply p (Some query)) old new
  answer_added root answer at (under, is) within added =
      given_added Answer (ok_response reply.closes root false answer) at
      (answer, is, ap (λ (root : List ℕ). ok_response reply.closes root false answer) under) within added

  pub proved_added : (root answer proof : List ℕ) → reply.endpoint ≡ AnswerWithProof → (root ≡ root_of p) × IsProved p query answer proof
      → IsWithinBudget (IsWorkOf (form_text Opl) p query) terms.most
      → new ≡ old ++ response_text (ok_response reply.closes root true (checked_body root answer proof)) → AddsResponse (ByQueryOn terms reply p (Some query)) old new
  proved_added root answer proof at (under, is) within added =
      given_added AnswerWithProof (ok_response reply.closes root true (checked_body root answer proof)) at
      (answer, proof, is, ap (λ (root : List ℕ). ok_response reply.closes root true (checked_body root answer proof)) under) within added

  -- why there is no answer: where the query has no fault, it reads
  pub fault_added : {A : Type 0} (fault : MirrorFault)
      → ((of : QlFault) → ◌≡◌ {A = Result A MirrorFault} (Err fault) (Err (faults.Query of)) → HasFault query of)
      → ((of : QlFault) → HasFault query of
      → (◌≡◌ {A = Result A MirrorFault} (Err fault) (Err (faults.Query of))) ⊎ (◌≡◌ {A = Result A MirrorFault} (Err fault) (Err faults.Memory)))
      → KeepsBudget {A = A} (IsWorkOf (form_text Opl) p query) terms.most (Err fault)
      → (terms.most ≡ None → ◌≡◌ {A = Result A MirrorFault} (Err fault) (Err faults.Work) → ⊥)
      → (◌≡◌ {A = Result A MirrorFault} (Err fault) (Err faults.Device) → terms.may_fail ≡ true)
      → AddsFault reply.closes fault old new → AddsResponse (ByQueryOn terms reply p (Some query)) old new
  fault_added (faults.Query of) told refused budget limited fails added = (refusal reply.closes 400 (fault_text of), inl (of, told of refl, refl), added)
  fault_added faults.Work told refused budget limited fails added = elim (one_of_both query) [
    | inl (statements, reads) ↦
        let much = too_much_within terms.most reply.endpoint reply.closes p query statements reads budget (λ none. limited none refl) in
        (too_much_response reply.closes, inr (given_on (too_much_response reply.closes) much), added)
    | inr (of, has) ↦ absurd (elim (refused of has) [ inl is ↦ cc | inr is ↦ cc ])
  ]
  fault_added faults.Memory told refused budget limited fails added = absurd added
  fault_added faults.Device told refused budget limited fails added = elim (one_of_both query) [
    | inl (statements, reads) ↦
        let r = failed_response reply.closes in
        (r, inr (failed terms.may_fail reply.closes query r (GivesWithin terms.most reply.endpoint reply.closes p query r) (fails refl) (statements, reads, refl)), added)
    | inr (of, has) ↦ absurd (elim (refused of has) [ inl is ↦ cc | inr is ↦ cc ])
  ]
