-- What was called, and what refused calls, and what a reply shows, are to the command.
use Rattle.std.specs.Prelude.{◌≡◌, ℕ, List, ◌++◌, Option, Some, None, Result, Ok, Err, ⊤}
use Rattle.std.specs.declared.alloc.Global.{Global}
use Rattle.std.specs.declared.vec.Vec.{Vec}
use Rattle.ql_syntax.specs.declared.cause.QlCause.{QlCause}
use Rattle.ql_syntax.specs.declared.cause.QlCause.TheVariants as causes
use Rattle.ql_syntax.specs.declared.fault.QlFault.{QlFault}
use Rattle.mirror_reply.specs.Calls.{Call}
use Rattle.mirror_reply.specs.declared.fetch_fault.FetchFault.{FetchFault}
use Rattle.mirror_reply.specs.declared.fetch_fault.FetchFault.TheVariants as fetches
use Rattle.mirror_answer.specs.declared.mirror_fault.MirrorFault.TheVariants.{Reply, Silent, Unreached}
use Rattle.mirror_answer.specs.declared.shown.Shown.{Shown}
use Rattle.mirror_answer.specs.declared.shown.Shown.TheVariants as shows
use Rattle.osm_fetch.specs.Fetching.{Calls, Fetching}
use Rattle.osm_fetch.specs.declared.not_fetched.NotFetched.{NotFetched}
use Rattle.osm_fetch.specs.declared.not_fetched.NotFetched.TheVariants.{Memory, Mirror, Query}

abbrev pub fault_of_cause : QlFault → QlCause → NotFetched
fault_of_cause fault causes.Memory = Memory
fault_of_cause fault cause = Query fault

abbrev pub fault_of_query : QlFault → NotFetched
fault_of_query fault = fault_of_cause fault fault.cause

abbrev pub fault_of_fetch : FetchFault → NotFetched
fault_of_fetch fetches.Unreached = Mirror Unreached
fault_of_fetch fetches.Silent = Mirror Silent
fault_of_fetch (fetches.Reply fault) = Mirror (Reply fault)
fault_of_fetch fetches.Memory = Memory

abbrev pub result_of : Shown → Result (Vec ℕ Global) NotFetched
result_of (shows.Answer text) = Ok text
result_of (shows.Unread fault) = Err (Query fault)
result_of (shows.Refused fault) = Err (Mirror fault)

-- where calls are known: these were made, and end so
abbrev pub HasCalled : Fetching → (before after : Option (List Call)) → Result (Vec ℕ Global) NotFetched → Type 0
HasCalled f None after result = ⊤
HasCalled f (Some before) after result = (calls : List Call) × (after ≡ Some (calls ++ before)) × Calls f calls result
