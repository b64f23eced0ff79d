-- The response to a client's first request, by what the client and the last mirror asked have sent.
-- Source: this project.
use Rattle.std.specs.Prelude.{◌≡◌, ◌⊎◌, ℕ, Bool, true, false, List, [], ◌++◌, Option, Some, None}
use Rattle.ql_syntax.specs.Queries.{HasFault}
use Rattle.ql_syntax.specs.declared.fault.QlFault.{QlFault}
use Rattle.ql_eval.specs.declared.evaluation.Report.{Report}
use Rattle.osm_forms.specs.declared.form.Form.{Form}
use Rattle.mirror_reply.specs.Replies.{HasReply}
use Rattle.mirror_reply.specs.Requests.{is_host_text, request_text}
use Rattle.mirror_reply.specs.Standings as standings
use Rattle.mirror_reply.specs.Standings.{Stands, waits}
use Rattle.mirror_answer.specs.Showing.{IsFaultOf, IsShownWithin, Wanted}
use Rattle.mirror_answer.specs.declared.mirror_fault.MirrorFault.{MirrorFault}
use Rattle.mirror_answer.specs.declared.mirror_fault.MirrorFault.TheVariants.{OtherRoot, Proof, Reply, Silent, Unreached, Work}
use Rattle.osm_relay.specs.Errands.{Errand, HasErrand, answer_to, not_allowed, slots, unmet}
use Rattle.osm_relay.specs.Logs.{Log}
use Rattle.osm_relay.specs.MirrorTexts.{fault_text, mirror_text, status_of_fault}
use Rattle.osm_relay.specs.Pages.{document_response, error_response, not_allowed_response, slots_response, starved}
use Rattle.osm_relay.specs.Questions.{WantsForm}
use Rattle.http_messages.specs.ResponseTexts.{response_text}
use Rattle.osm_relay.specs.declared.limits.TheConstants.{REPLY_LIMIT}
use Rattle.osm_relay.specs.declared.terms.Terms.{Terms}

-- ---- what is asked for

-- the client's first request asks for the answer to this query, which reads, in this form
pub record Wants (brought query : List ℕ) (form : Form) : Type 0 where
  pub errand : HasErrand brought (answer_to query)
  pub form_is : WantsForm query form

-- what is asked of a mirror under these terms
abbrev pub wanted_under : Terms → (query : List ℕ) → Form → Wanted
wanted_under terms query form = record { query = query; root = terms.root.0; form = form; most = terms.most }

-- ---- what the mirror did

-- this is what a whole reply shows: nothing, for this reason
abbrev pub ShowsNone : Wanted → List ℕ → MirrorFault → Type 0
ShowsNone w received fault =
    (named : List ℕ) × (answer : List ℕ) × (proof : List ℕ) × HasReply REPLY_LIMIT received named answer proof × IsFaultOf w named proof fault

-- why the mirror gives no answer: there is no connection to it, or it took and sent nothing; what it sent decides nothing yet;
-- it is no reply; or the reply shows nothing, or not within the budget
abbrev pub IsMirrorFault : Wanted → Option Log → MirrorFault → Type 0
IsMirrorFault w None fault = fault ≡ Unreached
IsMirrorFault w (Some m) Unreached = (m.took ≡ []) × (m.brought ≡ [])
IsMirrorFault w (Some m) Silent = Stands REPLY_LIMIT false m.brought waits
IsMirrorFault w (Some m) (Reply fault) = standings.HasFault REPLY_LIMIT m.ended m.brought fault
IsMirrorFault w (Some m) OtherRoot = ShowsNone w m.brought OtherRoot
IsMirrorFault w (Some m) (Proof why) = ShowsNone w m.brought (Proof why)
IsMirrorFault w (Some m) Work = ShowsNone w m.brought Work

-- ---- the response

-- no mirror is needed: the request is refused, asks for free slots, or its query doesn't read
abbrev pub IsAlone : Errand → List ℕ → Type 0
IsAlone (unmet status text) response = response ≡ response_text (error_response status text)
IsAlone (not_allowed methods) response = response ≡ response_text (not_allowed_response methods)
IsAlone slots response = response ≡ response_text slots_response
IsAlone (answer_to query) response =
    (fault : QlFault) × HasFault query fault × (response ≡ response_text (error_response 400 (fault_text fault)))

-- what a client is answered under these terms, by what it has sent and by what the last mirror asked has sent; none where no
-- mirror was asked, or the last one has no connection
pub data Relayed (terms : Terms) (brought : List ℕ) (mirror : Option Log) (response : List ℕ) : Type 0 where
  -- no mirror is asked
  Alone : (e : Errand) → HasErrand brought e → mirror ≡ None → IsAlone e response → Relayed terms brought mirror response
  -- the document of the text that the proof of the reply shows
  Given : (query : List ℕ) (form : Form) (m : Log) (named answer proof text : List ℕ) (report : Report) → Wants brought query form → mirror ≡ Some m
      → HasReply REPLY_LIMIT m.brought named answer proof → IsShownWithin (wanted_under terms query form) proof text report
      → response ≡ response_text (document_response form terms.root.0 text) → Relayed terms brought mirror response
  -- why there is none
  NotGiven : (query : List ℕ) (form : Form) (fault : MirrorFault) → Wants brought query form
      → IsMirrorFault (wanted_under terms query form) mirror fault
      → response ≡ response_text (error_response (status_of_fault fault) (mirror_text fault)) → Relayed terms brought mirror response
  -- memory ran out
  Starved : response ≡ starved → Relayed terms brought mirror response

-- ---- a conversation

-- how a conversation stands: its number, its terms, whether its wires tell, what went over those of the client and of the
-- last mirror asked, and once it is over whether the client took all of its response
pub record Standing : Type 0 where
  pub number : ℕ
  pub terms : Terms
  pub tells : Bool
  pub client : Log
  pub mirror : Option Log
  pub ending : Option Bool

-- what the client took is a beginning of the response to its first request, or nothing
abbrev pub IsTaken : Terms → Log → Option Log → Type 0
IsTaken terms c m =
    (c.took ≡ []) ⊎ ((response : List ℕ) × (rest : List ℕ) × (response ≡ c.took ++ rest) × Relayed terms c.brought m response)

-- it is all of it
abbrev pub IsTakenWhole : Terms → Log → Option Log → Type 0
IsTakenWhole terms c m = Relayed terms c.brought m c.took

abbrev pub IsTakenAt : Option Bool → Terms → Log → Option Log → Type 0
IsTakenAt None terms c m = IsTaken terms c m
IsTakenAt (Some false) terms c m = IsTaken terms c m
IsTakenAt (Some true) terms c m = IsTakenWhole terms c m

-- a mirror is asked only for what the client wants: what it took is a beginning of the request that asks for it
abbrev pub IsAskedFor : List ℕ → Option Log → Type 0
IsAskedFor brought None = Unit {0}
IsAskedFor brought (Some m) =
    (query : List ℕ) × (form : Form) × (host : List ℕ) × (rest : List ℕ) × Wants brought query form × (is_host_text host ≡ true)
    × (request_text host query ≡ m.took ++ rest)

-- the promise of every conversation, at any time, where its wires tell
abbrev pub IsPromised : Standing → Type 0
IsPromised s = s.tells ≡ true → IsTakenAt s.ending s.terms s.client s.mirror × IsAskedFor s.client.brought s.mirror
