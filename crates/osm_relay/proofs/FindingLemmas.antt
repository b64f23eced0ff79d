-- What comes of a client's bytes.
use Rattle.std.proofs.Common.{◌≡◌, ℕ, List, refl, ap, IfOk, inl, inr}
use Rattle.std.specs.Prelude.{◌≢◌, ◌⊎◌, Result, Ok, Err, Some}
use Rattle.std.specs.declared.alloc.AllocError.{AllocError}
use Rattle.ql_syntax.specs.Queries.{HasFault, memory_fault}
use Rattle.ql_syntax.specs.declared.cause.QlCause.TheVariants as causes
use Rattle.ql_syntax.specs.declared.fault.QlFault.{QlFault}
use Rattle.http_messages.specs.Requests.{Decided, first_request}
use Rattle.osm_relay.specs.Errands.{answer_to, errand_of}
use Rattle.osm_relay.specs.MirrorTexts.{fault_text}
use Rattle.osm_relay.specs.Pages.{error_response}
use Rattle.osm_relay.specs.Relayed.{IsAlone}
use Rattle.http_messages.specs.ResponseTexts.{response_text}
use Rattle.osm_relay.specs.declared.finding.Found.{Found}
use Rattle.osm_relay.specs.declared.finding.Found.TheVariants.{Ask, Open, Respond}
use Rattle.osm_relay.specs.internal.Finding.{IsFound, Meets}

met : (bytes : List ℕ) (d : Decided) → first_request bytes ≡ Some d → (found : Found) → Meets (errand_of d.request) found → IsFound bytes found
met bytes d e (Open needed) is = absurd is
met bytes d e (Respond response) is = (errand_of d.request, (d, e, refl), is)
met bytes d e (Ask question) is = (errand_of d.request, (d, e, refl), is)

pub found_of : (bytes : List ℕ) (d : Decided) → first_request bytes ≡ Some d → (result : Result Found AllocError) → IfOk result (Meets (errand_of d.request))
    → IfOk result (IsFound bytes)
found_of bytes d e (Ok found) is = met bytes d e found is
found_of bytes d e (Err error) is = tt

-- out of memory is no fault of a query
pub unread_alone : (query : List ℕ) (fault : QlFault) (response : List ℕ) → (fault ≡ memory_fault) ⊎ HasFault query fault → fault.cause ≢ causes.Memory
    → response ≡ response_text (error_response 400 (fault_text fault)) → IsAlone (answer_to query) response
unread_alone query fault response (inl memory) other e = absurd (other (ap (λ (f : QlFault). f.cause) memory))
unread_alone query fault response (inr has) other e = (fault, has, e)
