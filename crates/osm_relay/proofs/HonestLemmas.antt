-- What a client is told where the last mirror that was asked is an honest one.
use Rattle.std.proofs.Common.{◌≡◌, ◌∙◌, ◌++◌, ℕ, List, [], ap, append-nil, false, inl, inr, refl, subst, sym, true}
use Rattle.std.specs.Prelude.{Bool, Option, Some, None}
use Rattle.ql_syntax.proofs.shared.FormatLemmas.{one_format}
use Rattle.osm_check.specs.Telling.{IsProvedIn, IsTold}
use Rattle.osm_check.specs.declared.told.Told.TheVariants.{No}
use Rattle.osm_check.specs.declared.why.Why.{Why}
use Rattle.osm_check.proofs.shared.HonestLemmas.{not_refused, shown_is}
use Rattle.osm_forms.specs.declared.form.Form.{Form}
use Rattle.mirror_reply.specs.Replies.{HasReply}
use Rattle.mirror_reply.proofs.shared.SpelledLemmas.{none_replied, reply-no_fault, reply-unique, waiting_holds_none}
use Rattle.mirror_answer.specs.Showing.{IsPassed}
use Rattle.mirror_answer.specs.declared.mirror_fault.MirrorFault.{MirrorFault}
use Rattle.mirror_answer.specs.declared.mirror_fault.MirrorFault.TheVariants as faults
use Rattle.osm_relay.specs.Errands.{BeginsErrand, answer_to}
use Rattle.osm_relay.specs.Honest.{IsHonestlyTold, IsServed}
use Rattle.osm_relay.specs.Logs.{Log}
use Rattle.osm_relay.specs.MirrorTexts.{mirror_text, status_of_fault}
use Rattle.osm_relay.specs.Pages.{document_response, error_response, too_much_work}
use Rattle.osm_relay.specs.Questions.{WantsForm, form_for}
use Rattle.osm_relay.specs.Relayed.{Alone, Given, IsMirrorFault, IsTaken, IsTakenAt, NotGiven, Relayed, Starved, Wants, wanted_under}
use Rattle.http_messages.specs.ResponseTexts.{response_text}
use Rattle.osm_relay.specs.declared.limits.TheConstants.{REPLY_LIMIT}
use Rattle.osm_relay.specs.declared.terms.Terms.{Terms}

-- ---- a client wants one thing

one_errand : (bytes first second : List ℕ) → BeginsErrand bytes (answer_to first) → BeginsErrand bytes (answer_to second) → first ≡ second
one_errand bytes first second (d, begins, is) (e, starts, same) = cc

one_form : (query : List ℕ) (first second : Form) → WantsForm query first → WantsForm query second → first ≡ second
one_form query first second x y = x.formed ∙ ap form_for (one_format query x.format y.format x.asked y.asked) ∙ sym y.formed

-- ---- an honest mirror

module _ (terms : Terms) (response : List ℕ) (c m : Log) (is : IsServed terms c m response) where
  one_query : (query : List ℕ) (form : Form) → Wants c.brought query form → is.query ≡ query
  one_query query form wants = one_errand _ is.query query is.wants.errand wants.errand

  one_proof : (named answer proof : List ℕ) → HasReply REPLY_LIMIT m.brought named answer proof → is.proof ≡ proof
  one_proof named answer proof reply = let one = reply-unique REPLY_LIMIT m.brought is.named is.answer is.proof named answer proof is.replied reply in one.2

  -- the right proof, as another one names query and form
  proved_of : (query : List ℕ) (form : Form) (wants : Wants c.brought query form) (named answer proof : List ℕ) → HasReply REPLY_LIMIT m.brought named answer proof
      → (is.form ≡ form) × IsProvedIn is.publication query form is.text proof
  proved_of query form wants named answer proof reply =
      let q = one_query query form wants in
      let wanted = subst (λ (t : List ℕ). WantsForm t is.form) q is.wants.form_is in
      let f = one_form query is.form form wanted wants.form_is in
      let asked = subst (λ (t : List ℕ). IsProvedIn is.publication t is.form is.text is.proof) q is.proved in
      let formed = subst (λ (g : Form). IsProvedIn is.publication query g is.text is.proof) f asked in
      (f, subst (λ (t : List ℕ). IsProvedIn is.publication query form is.text t) (one_proof named answer proof reply) formed)

  -- a proof that is refused isn't this one
  no_refusal : (query : List ℕ) (form : Form) → Wants c.brought query form → (named answer proof : List ℕ) → HasReply REPLY_LIMIT m.brought named answer proof
      → (why : Why) → IsTold query terms.root.0 form proof (No why) → ⊥
  no_refusal query form wants named answer proof reply why told =
      let proved = proved_of query form wants named answer proof reply in
      not_refused query terms.root.0 proof form is.publication is.published is.root_is is.text why proved.1 told

  -- a budget that is passed is passed by this proof
  passed_of : (query : List ℕ) (form : Form) → Wants c.brought query form → (named answer proof : List ℕ) → HasReply REPLY_LIMIT m.brought named answer proof
      → IsPassed (wanted_under terms query form) proof → IsPassed (wanted_under terms is.query is.form) is.proof
  passed_of query form wants named answer proof reply passed =
      let proved = proved_of query form wants named answer proof reply in
      let asked = subst (λ (t : List ℕ). IsPassed (wanted_under terms t form) proof) (sym (one_query query form wants)) passed in
      let formed = subst (λ (f : Form). IsPassed (wanted_under terms is.query f) proof) (sym proved.0) asked in
      subst (λ (t : List ℕ). IsPassed (wanted_under terms is.query is.form) t) (sym (one_proof named answer proof reply)) formed

  -- no fault is told but that there is too much work
  fault_as : (query : List ℕ) (form : Form) → Wants c.brought query form → (fault : MirrorFault) → IsMirrorFault (wanted_under terms query form) (Some m) fault
      → (fault ≡ faults.Work) × IsPassed (wanted_under terms is.query is.form) is.proof
  fault_as query form wants faults.Unreached (took, brought) =
      absurd (none_replied REPLY_LIMIT is.named is.answer is.proof (subst (λ (t : List ℕ). HasReply REPLY_LIMIT t is.named is.answer is.proof) brought is.replied))
  fault_as query form wants faults.Silent stands = absurd (waiting_holds_none REPLY_LIMIT m.brought is.named is.answer is.proof stands is.replied)
  fault_as query form wants (faults.Reply fault) has = absurd (reply-no_fault REPLY_LIMIT m.ended m.brought is.named is.answer is.proof fault is.replied has)
  fault_as query form wants faults.OtherRoot (named, answer, proof, reply, (other, (why, of, told))) = absurd (no_refusal query form wants named answer proof reply why told)
  fault_as query form wants (faults.Proof why) (named, answer, proof, reply, (same, of, told)) = absurd (no_refusal query form wants named answer proof reply why told)
  fault_as query form wants faults.Work (named, answer, proof, reply, passed) = (refl, passed_of query form wants named answer proof reply passed)

  -- what is told of a fault
  told_fault : (fault : MirrorFault) → fault ≡ faults.Work → response_text (error_response (status_of_fault fault) (mirror_text fault)) ≡ too_much_work
  told_fault fault work = ap (λ (f : MirrorFault). response_text (error_response (status_of_fault f) (mirror_text f))) work

  -- the document, that memory ran out, or that there is too much work
  relayed_as : (text : List ℕ) → Relayed terms c.brought (Some m) text → IsHonestlyTold terms c m response is text
  relayed_as text (Alone e errand none alone) = absurd (cc)
  relayed_as text (Given query form log named answer proof shown report wants same reply shows e) =
      let same_brought : log.brought ≡ m.brought = cc in
      let here = subst (λ (t : List ℕ). HasReply REPLY_LIMIT t named answer proof) same_brought reply in
      let proved = proved_of query form wants named answer proof here in
      let text_is = shown_is query terms.root.0 proof form is.publication is.published is.root_is is.text shown report proved.1 shows.shown in
      inl (e ∙ ap (λ (t : List ℕ). response_text (document_response form terms.root.0 t)) text_is
      ∙ ap (λ (f : Form). response_text (document_response f terms.root.0 is.text)) (sym proved.0) ∙ sym is.response_is)
  relayed_as text (NotGiven query form fault wants fails e) =
      let (work, passed) = fault_as query form wants fault fails in inr (inr (e ∙ told_fault fault work, passed))
  relayed_as text (Starved e) = inr (inl e)

  -- a beginning of one of them
  begun_as : IsTaken terms c (Some m) → (rest : List ℕ) × IsHonestlyTold terms c m response is (c.took ++ rest)
  begun_as (inl none) = (response, inl (ap (λ (t : List ℕ). t ++ response) none))
  begun_as (inr (text, rest, split, relayed)) = (rest, subst (IsHonestlyTold terms c m response is) split (relayed_as text relayed))

  pub whole : IsTakenAt (Some true) terms c (Some m) → IsHonestlyTold terms c m response is c.took
  whole taken = relayed_as c.took taken

  pub begun : (ending : Option Bool) → IsTakenAt ending terms c (Some m) → (rest : List ℕ) × IsHonestlyTold terms c m response is (c.took ++ rest)
  begun None taken = begun_as taken
  begun (Some false) taken = begun_as taken
  begun (Some true) taken = ([], subst (IsHonestlyTold terms c m response is) (sym (append-nil c.took)) (whole taken))
