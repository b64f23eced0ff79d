-- What a reply comes to.
use Rattle.std.specs.Prelude.{◌≡◌, ℕ, List}
use Rattle.ql_eval.specs.declared.evaluation.Report.{Report}
use Rattle.mirror_answer.specs.Showing.{IsFaultOf, IsShownWithin, Wanted}
use Rattle.osm_relay.specs.Pages.{document_response}
use Rattle.osm_relay.specs.Relayed.{wanted_under}
use Rattle.http_messages.specs.ResponseTexts.{response_text}
use Rattle.osm_relay.specs.declared.judging.Judged.{Judged}
use Rattle.osm_relay.specs.declared.judging.Judged.TheVariants.{Given, Refused}
use Rattle.osm_relay.specs.declared.question.Question.{Question}
use Rattle.osm_relay.specs.declared.terms.Terms.{Terms}

abbrev pub wanted : Question → Terms → Wanted
wanted q terms = wanted_under terms q.query q.form

-- the proof shows the text of the document, or the fault is true of the reply
abbrev pub Judges : Question → Terms → (named proof : List ℕ) → Judged → Type 0
Judges q terms named proof (Given response) =
    (text : List ℕ) × (report : Report) × IsShownWithin (wanted q terms) proof text report
    × (response.items ≡ response_text (document_response q.form terms.root.0 text))
Judges q terms named proof (Refused fault) = IsFaultOf (wanted q terms) named proof fault
