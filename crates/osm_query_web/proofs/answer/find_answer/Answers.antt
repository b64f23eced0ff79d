-- A fault comes to what is missing, or to itself.
use Rattle.std.proofs.Common.{◌≡◌, ◌∙◌, ◌++◌, ℕ, List, ap, inl, inr}
use Rattle.osm_forms.specs.Documents.{document_in}
use Rattle.osm_forms.specs.declared.form.Form.{Form}
use Rattle.osm_keys.specs.Publications.{Publication}
use Rattle.osm_packs.specs.Querying.{IsRight}
use Rattle.osm_query_web.proofs.CallResultLemmas.{explains, missing, no_document}
use Rattle.osm_query_web.specs.Answers.{IsAnswerOf}
use Rattle.osm_query_web.specs.internal.Reading.{ArePiecesOf}
use Rattle.osm_query_web.proofs.answer.find_answer.Goals as goal

answer : (p : Publication) (form : Form) (query text document : List ℕ) → IsRight p form query text → document ≡ document_in form text → IsAnswerOf p form query document
answer p form query text document (inl right) is = inl (record { text = text; is_text = right; document_is = is })
answer p form query text document (inr clash) is = inr clash

pub returns-in-Err-clause-right : goal.returns-in-Err-clause-right
returns-in-Err-clause-right c spans p are is root_is = no_document c.args.pieces.now.size spans _ _ _ (c.call_result_of.ensures spans are)

pub returns-in-Err-clause-rooted : goal.returns-in-Err-clause-rooted
returns-in-Err-clause-rooted c spans are = no_document c.args.pieces.now.size spans _ _ _ (c.call_result_of.ensures spans are)

pub returns-in-Err-clause-missing : goal.returns-in-Err-clause-missing
returns-in-Err-clause-missing c spans are =
    missing c.args.pieces.now.size spans c.args.stated (ArePiecesOf c.args.pieces.now) c.args.query.now c.args.root.now.0 c.in-Err.fault c.in-Err.ensures.refused c.call_result_of.result (c.call_result_of.ensures spans are)

pub returns-in-Err-clause-refused : goal.returns-in-Err-clause-refused
returns-in-Err-clause-refused c spans are =
    explains c.args.pieces.now.size spans c.args.stated (ArePiecesOf c.args.pieces.now) c.args.query.now c.args.root.now.0 c.in-Err.fault c.in-Err.ensures.refused c.call_result_of.result (c.call_result_of.ensures spans are)

pub returns-in-Ok-clause-right : goal.returns-in-Ok-clause-right
returns-in-Ok-clause-right c spans p are is root_is =
    let has = c.in-Ok.ensures.right p is root_is in
    answer p c.args.form c.args.query.now has.0 c.read_answer.new.document.items has.1 (has.2 ∙ ap (λ (l : List ℕ). l ++ document_in c.args.form has.0) c.new-document.ensures.items)
