-- What is told from the nodes of a proof.
-- Source: this project.
use Rattle.std.specs.Prelude.{ℕ, List}
use Rattle.osm_forms.specs.declared.form.Form.{Form}
use Rattle.ql_syntax.specs.Statements.{Statements}
use Rattle.osm_check.specs.Telling.{IsOfNoAnswer, ShowsOfAll}
use Rattle.osm_check.specs.Verdicts.{IsReport}
use Rattle.osm_check.specs.declared.told.Told.{Told}
use Rattle.osm_check.specs.declared.told.Told.TheVariants.{Answer, No}
use Rattle.osm_check.specs.declared.verdict.Verdict.TheVariants as verdicts
use Rattle.osm_check.specs.internal.Judging.{IsJudged}

-- they show the text, or the reason is that of the verdict on each answer
abbrev pub IsToldFrom : (root : List ℕ) → Statements → Form → List (List ℕ) → Told → Type 0
IsToldFrom root statements form nodes (Answer text report) = IsReport nodes report × ShowsOfAll root statements form nodes text.items
IsToldFrom root statements form nodes (No why) = IsOfNoAnswer why × ((answer : List ℕ) → IsJudged root statements answer nodes (verdicts.No why))
