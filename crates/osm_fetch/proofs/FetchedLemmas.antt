-- What is fetched, from the calls that are made.
use Rattle.std.proofs.Common.{◌≡◌, ◌≢◌, ◌⊎◌, ◌∙◌, ℕ, List, [], ◌∷◌, ◌++◌, Option, None, Some, Result, Ok, Err, IfErr, IsErrAnd, ap, append-nil, inl, inr, refl, subst, sym}
use Rattle.std.proofs.lemmas.List.{append_cancel_right}
use Rattle.std.specs.declared.alloc.Global.{Global}
use Rattle.std.specs.declared.vec.Vec.{Vec}
use Rattle.ql_syntax.specs.Queries.{HasFault, memory_fault}
use Rattle.ql_syntax.proofs.shared.QueryLaws.{reads_or_not}
use Rattle.ql_syntax.specs.declared.cause.QlCause.{QlCause}
use Rattle.ql_syntax.specs.declared.cause.QlCause.TheVariants as causes
use Rattle.ql_syntax.specs.declared.fault.QlFault.{QlFault}
use Rattle.osm_check.specs.Verdicts.{IsReadable}
use Rattle.mirror_reply.specs.Calls.{Call, broken, bytes_received, ended, opened, received, sent, unsent}
use Rattle.mirror_reply.specs.Fetches.{Ends, Fetch, HasAsked, HasFetched, HasStopped, IsSilent, is_closed}
use Rattle.mirror_reply.specs.Replies.{HasReply}
use Rattle.mirror_reply.specs.Requests.{request_text}
use Rattle.mirror_reply.specs.Standings.{HasFault as HasReplyFault}
use Rattle.mirror_reply.specs.Taken.{HasTaken, Kept}
use Rattle.mirror_reply.specs.declared.fetch_fault.FetchFault.{FetchFault}
use Rattle.mirror_reply.specs.declared.fetch_fault.FetchFault.TheVariants as fetches
use Rattle.mirror_reply.proofs.shared.SpelledLemmas.{none_replied, reply-no_fault, waiting_holds_none}
use Rattle.mirror_answer.specs.Showing.{IsFaultOf, IsRightly, ShowsText}
use Rattle.mirror_answer.specs.declared.mirror_fault.MirrorFault.{MirrorFault}
use Rattle.mirror_answer.specs.declared.mirror_fault.MirrorFault.TheVariants.{OtherRoot, Proof, Reply, Silent, Unreached, Work}
use Rattle.mirror_answer.specs.declared.shown.Shown.{Shown}
use Rattle.mirror_answer.specs.declared.shown.Shown.TheVariants as shows
use Rattle.osm_fetch.specs.Fetching.{Calls, Explains, Fetching, IsExcused, IsMirrorFault, IsOutside, fetch_of}
use Rattle.osm_fetch.specs.internal.Fetched.{HasCalled, fault_of_cause, fault_of_fetch, fault_of_query, result_of}
use Rattle.osm_fetch.specs.declared.not_fetched.NotFetched.{NotFetched}
use Rattle.osm_fetch.specs.declared.not_fetched.NotFetched.TheVariants.{Device, Memory, Mirror}

-- ---- the log

abbrev log_or : Option (List Call) → List Call
log_or None = []
log_or (Some log) = log

abbrev IsNone : Option (List Call) → Type 0
IsNone None = Unit {0}
IsNone (Some log) = ⊥

pub called : (f : Fetching) (old new : Option (List Call)) (result : Result (Vec ℕ Global) NotFetched)
    → ((before : List Call) → old ≡ Some before → (calls : List Call) × (new ≡ Some (calls ++ before)) × Calls f calls result)
    → HasCalled f old new result
called f None new result made = tt
called f (Some before) new result made = made before refl

-- nothing was called
pub uncalled : (f : Fetching) (log : Option (List Call)) (fault : NotFetched) → Explains f [] fault → HasCalled f log log (Err fault)
uncalled f log fault why = called f log log (Err fault) λ before is. ([], is, why)

-- what a fetch says of its log
pub fetched_at : (f : Fetch) (old new : Option (List Call)) (result : Result (Unit {0}) FetchFault) (before : List Call)
    → HasFetched f old new result → old ≡ Some before → (calls : List Call) × (new ≡ Some (calls ++ before)) × Ends f calls result
fetched_at f None new result before fetched is = absurd (subst IsNone is tt)
fetched_at f (Some log) new result before fetched is =
    subst (λ (b : List Call). (calls : List Call) × (new ≡ Some (calls ++ b)) × Ends f calls result) (ap log_or is) fetched

-- one log has the same calls
pub same_calls : (new : Option (List Call)) (first second before : List Call) → new ≡ Some (first ++ before) → new ≡ Some (second ++ before) → first ≡ second
same_calls new first second before one other = append_cancel_right first second before (ap log_or (sym one ∙ other))

-- ---- a query that doesn't read

unread_cause : (f : Fetching) (fault : QlFault) (cause : QlCause) → HasFault f.wanted.query fault → Explains f [] (fault_of_cause fault cause)
unread_cause f fault causes.Memory why = tt
unread_cause f fault causes.NotUtf8 why = (why, refl)
unread_cause f fault causes.UnexpectedCharacter why = (why, refl)
unread_cause f fault causes.Unclosed why = (why, refl)
unread_cause f fault causes.BadEscape why = (why, refl)
unread_cause f fault causes.UnexpectedWord why = (why, refl)
unread_cause f fault causes.NumberOutOfRange why = (why, refl)
unread_cause f fault causes.Unsupported why = (why, refl)
unread_cause f fault causes.TooDeep why = (why, refl)
unread_cause f fault causes.TooLong why = (why, refl)
unread_cause f fault causes.BadBox why = (why, refl)
unread_cause f fault causes.UnexpectedEnd why = (why, refl)

pub unread : (f : Fetching) (fault : QlFault) → (fault ≡ memory_fault) ⊎ HasFault f.wanted.query fault → Explains f [] (fault_of_query fault)
unread f fault (inl is) = subst (λ (q : QlFault). Explains f [] (fault_of_query q)) (sym is) tt
unread f fault (inr why) = unread_cause f fault fault.cause why

-- ---- no reply

pub unfetched : (f : Fetching) (kept : Kept) → kept.limit ≡ f.limit → IsReadable f.wanted.query → (calls : List Call) (fault : FetchFault)
    → Ends (record { request = request_text f.host f.wanted.query; kept = kept }) calls (Err fault) → Explains f calls (fault_of_fetch fault)
unfetched f kept limit reads calls fetches.Unreached (is, none) = (reads, inr is)
unfetched f kept limit reads calls fetches.Silent (silent, taken) =
    (reads, (kept.bytes, subst (λ (l : ℕ). IsSilent (record { request = request_text f.host f.wanted.query; kept = record { limit = l; bytes = kept.bytes } }) calls) limit silent))
unfetched f kept limit reads calls (fetches.Reply fault) (asked, has, taken) = (reads, (asked, subst (λ (l : ℕ). HasReplyFault l (is_closed calls) (bytes_received calls) fault) limit has))
unfetched f kept limit reads calls fetches.Memory starved = tt

stopped_holds_none : (f : Fetch) (calls : List Call) (a b c : List ℕ) → HasStopped f calls → HasReply f.kept.limit (bytes_received calls) a b c → ⊥
stopped_holds_none f [] a b c stopped reply = absurd stopped
stopped_holds_none f (opened is ∷ before) a b c stopped reply = absurd stopped
stopped_holds_none f (sent bytes ∷ before) a b c stopped reply =
    none_replied f.kept.limit a b c (subst (λ (r : List ℕ). HasReply f.kept.limit r a b c) stopped.0.none_received reply)
stopped_holds_none f (unsent ∷ before) a b c stopped reply =
    none_replied f.kept.limit a b c (subst (λ (r : List ℕ). HasReply f.kept.limit r a b c) stopped.none_received reply)
stopped_holds_none f (received bytes ∷ before) a b c stopped reply = absurd stopped
stopped_holds_none f (ended ∷ before) a b c stopped reply = absurd stopped
stopped_holds_none f (broken ∷ before) a b c stopped reply = waiting_holds_none f.kept.limit (bytes_received before) a b c stopped.1 reply

silent_holds_none : (f : Fetch) (calls : List Call) (a b c : List ℕ) → IsSilent f calls → HasReply f.kept.limit (bytes_received calls) a b c → ⊥
silent_holds_none f calls a b c (inl stopped) reply = stopped_holds_none f calls a b c stopped reply
silent_holds_none f calls a b c (inr waiting) reply = waiting_holds_none f.kept.limit (bytes_received calls) a b c waiting.0.1 reply

-- where a reply came, it lies outside that none is fetched
pub unfetched_outside : (f : Fetch) (calls : List Call) (fault : FetchFault) (a b c : List ℕ)
    → Ends f calls (Err fault) → HasReply f.kept.limit (bytes_received calls) a b c → IsOutside (fault_of_fetch fault)
unfetched_outside f calls fetches.Unreached a b c (is, none) reply =
    absurd (none_replied f.kept.limit a b c (subst (λ (k : List Call). HasReply f.kept.limit (bytes_received k) a b c) is reply))
unfetched_outside f calls fetches.Silent a b c (silent, taken) reply = absurd (silent_holds_none f calls a b c silent reply)
unfetched_outside f calls (fetches.Reply fault) a b c (asked, has, taken) reply = absurd (reply-no_fault f.kept.limit _ (bytes_received calls) a b c fault reply has)
unfetched_outside f calls fetches.Memory a b c starved reply = tt

-- ---- a reply

-- what is kept is taken
pub taken_all : (kept : Kept) → HasTaken kept kept.bytes
taken_all kept = ([], sym (append-nil kept.bytes), inl refl)

-- a proof that is refused is a fault of the mirror
pub refused : (f : Fetching) (calls : List Call) (named answer proof : List ℕ) (fault : MirrorFault) → HasAsked (fetch_of f) calls
    → HasReply f.limit (bytes_received calls) named answer proof → IsFaultOf f.wanted named proof fault → IsMirrorFault f calls fault
refused f calls named answer proof Unreached asked reply for = absurd for
refused f calls named answer proof Silent asked reply for = absurd for
refused f calls named answer proof (Reply fault) asked reply for = absurd for
refused f calls named answer proof OtherRoot asked reply for = (asked, record { named = named; answer = answer; proof = proof; replied = reply; for = for })
refused f calls named answer proof (Proof why) asked reply for = (asked, record { named = named; answer = answer; proof = proof; replied = reply; for = for })
refused f calls named answer proof Work asked reply for = (asked, record { named = named; answer = answer; proof = proof; replied = reply; for = for })

-- ---- what it shows

-- a query that reads has no fault, and what else is shown is what is to be told
pub shown_calls : (f : Fetching) (calls : List Call) (named answer proof : List ℕ) → IsReadable f.wanted.query → (HasAsked (fetch_of f) calls)
    → HasReply f.limit (bytes_received calls) named answer proof → (shown : Shown) → IsRightly f.wanted named proof shown → Calls f calls (result_of shown)
shown_calls f calls named answer proof reads asked reply (shows.Answer text) (report, shown) =
    (asked, record { proof = proof; held = (named, answer, reply); report = report; shown = shown })
shown_calls f calls named answer proof reads asked reply (shows.Unread fault) has = absurd (reads_or_not _ _ _ reads.1 has)
shown_calls f calls named answer proof reads asked reply (shows.Refused fault) for = (reads, refused f calls named answer proof fault asked reply for)

-- no device has failed
pub shown_no_device : (shown : Shown) → IfErr (result_of shown) (λ fault. fault ≢ Device)
shown_no_device (shows.Answer text) = tt
shown_no_device (shows.Unread fault) = λ same. absurd (cc)
shown_no_device (shows.Refused fault) = λ same. absurd (cc)

-- without a budget no work is too much
pub shown_limited : (shown : Shown) → shown ≢ shows.Refused Work → result_of shown ≢ Err (Mirror Work)
shown_limited (shows.Answer text) other same = absurd (cc)
shown_limited (shows.Unread fault) other same = absurd (cc)
shown_limited (shows.Refused fault) other same = let is : fault ≡ Work = cc in other (ap shows.Refused is)

-- from the one proof a text is shown, unless there is a budget and it is passed
pub shown_excused : (most : Option ℕ) (text : List ℕ) (shown : Shown) → ShowsText text shown ⊎ (shown ≡ shows.Refused Work) → (most ≡ None → shown ≢ shows.Refused Work)
    → IfErr (result_of shown) (IsExcused most)
shown_excused most text (shows.Answer told) is limited = tt
shown_excused most text (shows.Unread fault) (inl is) limited = absurd is
shown_excused most text (shows.Unread fault) (inr same) limited = absurd (cc)
shown_excused most text (shows.Refused fault) (inl is) limited = absurd is
shown_excused most text (shows.Refused fault) (inr same) limited = let is : fault ≡ Work = cc in inr (λ none. limited none same, ap Mirror is)

-- ---- handed on

pub excused_told : (most : Option ℕ) (result : Result (Unit {0}) NotFetched) (fault : NotFetched) → IsErrAnd result (λ told. told ≡ fault) → IsExcused most fault
    → IfErr result (IsExcused most)
excused_told most (Ok done) fault told excused = tt
excused_told most (Err other) fault told excused = subst (IsExcused most) (sym told) excused

pub limited_told : (result : Result (Unit {0}) NotFetched) (fault : NotFetched) → IsErrAnd result (λ told. told ≡ fault) → fault ≢ Mirror Work → result ≢ Err (Mirror Work)
limited_told (Ok done) fault told other same = absurd told
limited_told (Err given) fault told other same = let is : given ≡ Mirror Work = cc in other (sym told ∙ is)
