-- What is known of the wires at each stage of a conversation.
use Rattle.std.specs.Prelude.{◌≡◌, ℕ, Bool, true, false, List, [], ◌++◌, Option, Some, None}
use Rattle.http_messages.specs.HeadEnds.{skip_breaks}
use Rattle.mirror_reply.specs.Replies.{HasReply}
use Rattle.mirror_reply.specs.Standings.{Stands, waits}
use Rattle.mirror_reply.specs.Requests.{is_host_text, request_text}
use Rattle.mirror_reply.specs.Taken.{HasTaken, Kept}
use Rattle.osm_relay.specs.Logs.{Log}
use Rattle.osm_relay.specs.Relayed.{IsAskedFor, IsMirrorFault, IsTakenAt, Relayed, Wants}
use Rattle.osm_relay.specs.declared.limits.TheConstants.{REPLY_LIMIT}
use Rattle.osm_relay.specs.declared.question.Question.{Question}
use Rattle.osm_relay.specs.declared.stage.Search.{Search}
use Rattle.osm_relay.specs.declared.stage.Stage.{Stage}
use Rattle.osm_relay.specs.declared.stage.Stage.TheVariants.{Answering, Asking, Choosing, Hearing, Listening, Over}
use Rattle.osm_relay.specs.declared.terms.Terms.{Terms}
use Rattle.osm_relay.specs.internal.Judging.{wanted}

-- the client waits for the answer to this question
pub record IsWaiting (question : Question) (c : Log) : Type 0 where
  pub silent : c.took ≡ []
  pub wants : Wants c.brought question.query question.form

-- the mirror has taken a front of the request
pub record IsAsking (search : Search) (terms : Terms) (request : List ℕ) (c m : Log) : Type 0 where
  pub host : List ℕ
  pub is_host : is_host_text host ≡ true
  pub front : request_text host search.question.query ≡ m.took ++ request
  pub silent : m.brought ≡ []
  pub open_is : m.ended ≡ false
  pub fails : IsMirrorFault (wanted search.question terms) (Some m) search.fault

-- what the mirror has sent decides nothing yet
pub record IsListening (reply : Kept) (m : Log) : Type 0 where
  pub limit : reply.limit ≡ REPLY_LIMIT
  pub taken : HasTaken reply m.brought
  pub decides_none : Stands REPLY_LIMIT false m.brought waits
  pub open_is : m.ended ≡ false

-- the mirror's reply is whole
pub record IsHeard (search : Search) (reply : Kept) (c m : Log) : Type 0 where
  pub waits_for : IsWaiting search.question c
  pub asked : IsAskedFor c.brought (Some m)
  pub limit : reply.limit ≡ REPLY_LIMIT
  pub taken : HasTaken reply m.brought
  pub whole : (named : List ℕ) × (answer : List ℕ) × (proof : List ℕ) × HasReply REPLY_LIMIT m.brought named answer proof

-- the client has taken all of the response but this
abbrev pub IsAnswering : Terms → List ℕ → Log → Option Log → Type 0
IsAnswering terms left c m = (response : List ℕ) × (response ≡ c.took ++ left) × Relayed terms c.brought m response

abbrev pub StandsAt : Terms → Stage → Log → Option Log → Type 0
StandsAt terms (Hearing heard) c m = (c.took ≡ []) × (m ≡ None) × (heard ≡ skip_breaks c.brought)
StandsAt terms (Choosing search) c m =
    IsWaiting search.question c × IsMirrorFault (wanted search.question terms) m search.fault × IsAskedFor c.brought m
StandsAt terms (Asking search request) c m =
    IsWaiting search.question c × ((log : Log) × (m ≡ Some log) × IsAsking search terms request c log)
StandsAt terms (Listening search reply) c m =
    IsWaiting search.question c × ((log : Log) × (m ≡ Some log) × IsListening reply log) × IsAskedFor c.brought m
StandsAt terms (Answering left) c m = IsAnswering terms left c m × IsAskedFor c.brought m
StandsAt terms (Over whole) c m = IsTakenAt (Some whole) terms c m × IsAskedFor c.brought m

abbrev pub ending_of : Stage → Option Bool
ending_of (Hearing heard) = None
ending_of (Choosing search) = None
ending_of (Asking search request) = None
ending_of (Listening search reply) = None
ending_of (Answering left) = None
ending_of (Over whole) = Some whole
