-- Clients that honest mirrors serve.
-- Source: this project.
use Rattle.std.specs.Prelude.{◌≡◌, ◌⊎◌, ℕ, List}
use Rattle.osm_keys.specs.Publications.{IsPublication, Publication, root_of}
use Rattle.osm_check.specs.Telling.{IsProvedIn}
use Rattle.osm_forms.specs.declared.form.Form.{Form}
use Rattle.mirror_reply.specs.Replies.{HasReply}
use Rattle.mirror_answer.specs.Showing.{IsPassed}
use Rattle.osm_relay.specs.Logs.{Log}
use Rattle.osm_relay.specs.Pages.{document_response, starved, too_much_work}
use Rattle.osm_relay.specs.Relayed.{Wants, wanted_under}
use Rattle.http_messages.specs.ResponseTexts.{response_text}
use Rattle.osm_relay.specs.declared.limits.TheConstants.{REPLY_LIMIT}
use Rattle.osm_relay.specs.declared.terms.Terms.{Terms}

-- the client wants the answer to a query in a form; the mirror has sent a whole reply with the one proof of this query over
-- a publication with the root, whatever it gives as the answer and as its root; and this is the response with the document
-- of the query's meaning
pub record IsServed (terms : Terms) (c m : Log) (response : List ℕ) : Type 0 where
  pub query : List ℕ
  pub form : Form
  pub wants : Wants c.brought query form
  pub publication : Publication
  pub published : IsPublication publication
  pub root_is : terms.root.0 ≡ root_of publication
  pub text : List ℕ
  pub proof : List ℕ
  pub proved : IsProvedIn publication query form text proof
  pub named : List ℕ
  pub answer : List ℕ
  pub replied : HasReply REPLY_LIMIT m.brought named answer proof
  pub response_is : response ≡ response_text (document_response form terms.root.0 text)

-- what such a client may be told: the document; that memory ran out; or that there is too much work, where the proof passes
-- the budget
abbrev pub IsHonestlyTold : (terms : Terms) (c m : Log) (response : List ℕ) → IsServed terms c m response → List ℕ → Type 0
IsHonestlyTold terms c m response served text =
    (text ≡ response) ⊎ (text ≡ starved) ⊎ ((text ≡ too_much_work) × IsPassed (wanted_under terms served.query served.form) served.proof)
