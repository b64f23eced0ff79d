-- What is fetched: what was called at the mirror, what it sent, and what is written of it.
-- Source: this project.
use Rattle.std.specs.Prelude.{◌≡◌, ◌≢◌, ◌⊎◌, ℕ, List, [], ◌∷◌, ◌++◌, false, Option, Some, None, Result, Ok, Err, ⊤}
use Rattle.std.specs.Io.KnownBytes.{Appends, Keeps}
use Rattle.std.specs.declared.alloc.Global.{Global}
use Rattle.std.specs.declared.vec.Vec.{Vec}
use Rattle.byte_io.specs.Written.{AppendsFront}
use Rattle.osm_forms.specs.Documents.{document_in}
use Rattle.ql_eval.specs.declared.evaluation.Report.{Report}
use Rattle.ql_syntax.specs.Queries.{HasFault}
use Rattle.osm_check.specs.Verdicts.{IsReadable}
use Rattle.mirror_reply.specs.Calls.{Call, bytes_received, opened}
use Rattle.mirror_reply.specs.Fetches.{Fetch, HasAsked, IsSilent, is_closed}
use Rattle.mirror_reply.specs.Replies.{HasReply}
use Rattle.mirror_reply.specs.Requests.{is_host_text, request_text}
use Rattle.mirror_reply.specs.Standings.{HasFault as HasReplyFault}
use Rattle.mirror_answer.specs.Showing.{IsFaultOf, IsShownWithin, Wanted}
use Rattle.mirror_answer.specs.declared.mirror_fault.MirrorFault.{MirrorFault}
use Rattle.mirror_answer.specs.declared.mirror_fault.MirrorFault.TheVariants.{OtherRoot, Proof, Reply, Silent, Unreached, Work}
use Rattle.osm_commands.specs.Written.{Output}
use Rattle.osm_commands.specs.declared.status.Status.{Status}
use Rattle.osm_commands.specs.declared.status.Status.TheVariants.{Failed, No, Refused}
use Rattle.osm_fetch.specs.declared.not_fetched.NotFetched.{NotFetched}
use Rattle.osm_fetch.specs.declared.not_fetched.NotFetched.TheVariants.{Device, Memory, Mirror, Query}

-- what is wanted, from whom, and how many bytes the body of the response may have
pub record Fetching : Type 0 where
  pub wanted : Wanted
  pub host : List ℕ
  pub limit : ℕ

-- the request that asks for it, and what is kept of the response
abbrev pub fetch_keeping : Fetching → List ℕ → Fetch
fetch_keeping f bytes = record { request = request_text f.host f.wanted.query; kept = record { limit = f.limit; bytes = bytes } }

abbrev pub fetch_of : Fetching → Fetch
fetch_of f = fetch_keeping f []

-- the mirror's bytes hold a reply with this proof
abbrev pub HasProof : Fetching → (received proof : List ℕ) → Type 0
HasProof f received proof = (named : List ℕ) × (answer : List ℕ) × HasReply f.limit received named answer proof

-- they hold a proof that shows this text
pub record HasShown (f : Fetching) (received text : List ℕ) : Type 0 where
  pub proof : List ℕ
  pub held : HasProof f received proof
  pub report : Report
  pub shown : IsShownWithin f.wanted proof text report

-- they hold a reply that is refused so
pub record IsRefused (f : Fetching) (received : List ℕ) (fault : MirrorFault) : Type 0 where
  pub named : List ℕ
  pub answer : List ℕ
  pub proof : List ℕ
  pub replied : HasReply f.limit received named answer proof
  pub for : IsFaultOf f.wanted named proof fault

-- the fault is true of these calls and of what the mirror sent
abbrev pub IsMirrorFault : Fetching → List Call → MirrorFault → Type 0
IsMirrorFault f calls Unreached = ((calls ≡ []) × (is_host_text f.host ≡ false)) ⊎ (calls ≡ opened false ∷ [])
IsMirrorFault f calls Silent = (kept : List ℕ) × IsSilent (fetch_keeping f kept) calls
IsMirrorFault f calls (Reply fault) = HasAsked (fetch_of f) calls × HasReplyFault f.limit (is_closed calls) (bytes_received calls) fault
IsMirrorFault f calls fault = HasAsked (fetch_of f) calls × IsRefused f (bytes_received calls) fault

-- why each fault comes: the query is looked at before the mirror is asked
abbrev pub Explains : Fetching → List Call → NotFetched → Type 0
Explains f calls (Query fault) = HasFault f.wanted.query fault × (calls ≡ [])
Explains f calls (Mirror fault) = IsReadable f.wanted.query × IsMirrorFault f calls fault
Explains f calls Memory = ⊤
Explains f calls Device = ⊥

-- these calls were made, and the mirror's bytes show this text, or there is none for this fault
abbrev pub Calls : Fetching → List Call → Result (Vec ℕ Global) NotFetched → Type 0
Calls f calls (Ok text) = HasAsked (fetch_of f) calls × HasShown f (bytes_received calls) text.items
Calls f calls (Err fault) = Explains f calls fault

-- ---- the command

-- the same, and where it is written
pub record Command : Type 0 where
  pub wanted : Wanted
  pub host : List ℕ
  pub limit : ℕ
  pub output : Output

abbrev pub fetching : Command → Fetching
fetching c = record { wanted = c.wanted; host = c.host; limit = c.limit }

-- the mirror's bytes show a text, and this is the document around it
abbrev pub IsDocument : Command → List Call → List ℕ → Type 0
IsDocument c calls document = HasAsked (fetch_of (fetching c)) calls
    × ((text : List ℕ) × HasShown (fetching c) (bytes_received calls) text × (document ≡ document_in c.wanted.form text))

-- the output has gained the document; a beginning of it where the output failed; else nothing, and the fault is true
abbrev pub Ends : Command → List Call → Result (Unit {0}) NotFetched → Type 0
Ends c calls (Ok done) = (document : List ℕ) × IsDocument c calls document × Appends c.output.before c.output.after document
Ends c calls (Err Device) = (document : List ℕ) × IsDocument c calls document × AppendsFront c.output.before c.output.after document
Ends c calls (Err fault) = Explains (fetching c) calls fault × Keeps c.output.before c.output.after

abbrev pub HasFetched : Command → (before after : Option (List Call)) → Result (Unit {0}) NotFetched → Type 0
HasFetched c None after result = ⊤
HasFetched c (Some before) after result = (calls : List Call) × (after ≡ Some (calls ++ before)) × Ends c calls result

-- it lies neither with the query nor with the mirror
abbrev pub IsOutside : NotFetched → Type 0
IsOutside (Query fault) = ⊥
IsOutside (Mirror fault) = ⊥
IsOutside Memory = ⊤
IsOutside Device = ⊤

-- an honest mirror's fault it is neither: it lies outside, or there is a budget, and its proof passes it
abbrev pub IsExcused : Option ℕ → NotFetched → Type 0
IsExcused most fault = IsOutside fault ⊎ ((most ≢ None) × (fault ≡ Mirror Work))

-- ---- how the program ends

abbrev pub status_of_mirror : MirrorFault → Status
status_of_mirror Unreached = Failed
status_of_mirror Silent = Failed
status_of_mirror (Reply fault) = Failed
status_of_mirror OtherRoot = No
status_of_mirror (Proof why) = No
status_of_mirror Work = Failed

abbrev pub status_of : NotFetched → Status
status_of (Query fault) = Refused
status_of (Mirror fault) = status_of_mirror fault
status_of Memory = Failed
status_of Device = Failed
