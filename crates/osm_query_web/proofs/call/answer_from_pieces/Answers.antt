-- A root of a publication has 32 bytes, the form is the one that was asked for, and what is handed over is what was found.
use Rattle.std.proofs.Common.{◌≡◌, ◌⊎◌, ◌∙◌, ℕ, List, ap, length, subst, sym, take}
use Rattle.std.proofs.lemmas.Bool.{false≢true}
use Rattle.tree_node.proofs.shared.TreeLaws.{digest_len}
use Rattle.osm_forms.specs.declared.form.Form.{Form}
use Rattle.osm_keys.specs.Publications.{Publication, manifest_of, root_of}
use Rattle.osm_query_web.proofs.ExplainLemmas.{explains_by}
use Rattle.osm_query_web.proofs.HandedLemmas.{handed_over, headline, more, needed, nothing, refused, same_form, unreadable}
use Rattle.osm_query_web.proofs.PieceLemmas.{pieces_of_file}
use Rattle.osm_query_web.specs.Answers.{IsAnswerOf, IsTableOfWanted}
use Rattle.osm_query_web.specs.Pieces.{IsPartsOf}
use Rattle.osm_query_web.specs.Spans.{spans_in}
use Rattle.osm_query_web.specs.internal.CallResults.{ExplainsBy, IsExplained, handed}
use Rattle.osm_query_web.specs.internal.Reading.{ArePiecesOf}
use Rattle.osm_query_web.proofs.call.answer_from_pieces.Goals as goal

root_len : (root : List ℕ) (p : Publication) → root ≡ root_of p → length root ≡ 32
root_len root p is = ap length is ∙ digest_len (manifest_of p)

pub returns-in_default-clause-unreadable : goal.returns-in_default-clause-unreadable
returns-in_default-clause-unreadable c p fault is root_is has form_is is_table =
    absurd (false≢true (c.in_default.ensures.some.1 (root_len c.args.root.now p root_is)))

pub returns-in-Ok-clause-headline : goal.returns-in-Ok-clause-headline
returns-in-Ok-clause-headline c p asked is root_is form_is said =
    let form = c.in-Some-form_of.form in
    let same : form ≡ asked = same_form form asked (c.in-Some-form_of.ensures ∙ sym form_is) in
    let found = handed c.hand_over.result c.hand_over.new.told c.hand_over.new.len c.args.room.now c.hand_over.new.room in
    let right = c.find_answer-outcome.ensures.right (spans_in c.args.table.now) p c.in-Ok.ensures.read.are is (c.in-Some.ensures.same ∙ root_is) in
    subst (λ (it : Form). IsAnswerOf p it c.args.query.now (take c.hand_over.new.len c.hand_over.new.room)) same
    (headline found (IsAnswerOf p form c.args.query.now) c.find_answer-outcome.result c.hand_over.ensures said right)

pub returns-in-Ok-clause-refused : goal.returns-in-Ok-clause-refused
returns-in-Ok-clause-refused c said =
    let spans = spans_in c.args.table.now in
    let pieces = c.in-Ok.pieces in
    let read = c.in-Ok.ensures.read in
    let found = handed c.hand_over.result c.hand_over.new.told c.hand_over.new.len c.args.room.now c.hand_over.new.room in
    let told = refused found (IsExplained c.args.stated (ArePiecesOf pieces) c.args.query.now c.in-Some.root.0) c.find_answer-outcome.result c.hand_over.ensures said (c.find_answer-outcome.ensures.refused spans read.are) in
    let explained = subst (λ (root : List ℕ). ExplainsBy c.args.stated (ArePiecesOf pieces) c.args.query.now root told.0) c.in-Some.ensures.same told.2.explained in
    record {
      fault = told.0;
      told_is = told.1;
      explained =
          explains_by c.args.stated (ArePiecesOf pieces) (IsPartsOf c.args.size spans c.args.bytes.now) (λ file parts. pieces_of_file c.args.size c.args.bytes.now file spans pieces read.size_is read.bytes_are read.are parts)
          c.args.query.now c.args.root.now told.0 explained;
      not_memory = told.2.not_memory;
      not_output = told.2.not_output;
    }

pub returns-in-Ok-clause-more : goal.returns-in-Ok-clause-more
returns-in-Ok-clause-more c said =
    let spans = spans_in c.args.table.now in
    let read = c.in-Ok.ensures.read in
    let found = handed c.hand_over.result c.hand_over.new.told c.hand_over.new.len c.args.room.now c.hand_over.new.room in
    subst (λ (size : ℕ). IsTableOfWanted size spans c.args.query.now (take c.hand_over.new.len c.hand_over.new.room)) read.size_is
    (more found (IsTableOfWanted c.in-Ok.pieces.size spans c.args.query.now) c.find_answer-outcome.result c.hand_over.ensures said (c.find_answer-outcome.ensures.missing spans read.are))

pub returns-in-Ok-clause-unreadable : goal.returns-in-Ok-clause-unreadable
returns-in-Ok-clause-unreadable c p fault is root_is has form_is is_table =
    let spans = spans_in c.args.table.now in
    let are = c.in-Ok.ensures.read.are in
    let says = c.find_answer-outcome.ensures in
    let found = handed c.hand_over.result c.hand_over.new.told c.hand_over.new.len c.args.room.now c.hand_over.new.room in
    unreadable found p c.in-Some-form_of.form c.in-Ok.pieces.size spans c.args.stated (ArePiecesOf c.in-Ok.pieces) c.args.query.now c.in-Some.root.0 fault has c.find_answer-outcome.result c.hand_over.ensures
    (says.right spans p are is (c.in-Some.ensures.same ∙ root_is)) (says.missing spans are) (says.refused spans are)

pub returns-in-Ok-clause-needed : goal.returns-in-Ok-clause-needed
returns-in-Ok-clause-needed c p asked is root_is form_is said =
    let spans = spans_in c.args.table.now in
    let read = c.in-Ok.ensures.read in
    let form = c.in-Some-form_of.form in
    let same : form ≡ asked = same_form form asked (c.in-Some-form_of.ensures ∙ sym form_is) in
    let found = handed c.hand_over.result c.hand_over.new.told c.hand_over.new.len c.args.room.now c.hand_over.new.room in
    let right = c.find_answer-outcome.ensures.right spans p read.are is (c.in-Some.ensures.same ∙ root_is) in
    let lists = c.find_answer-outcome.ensures.missing spans read.are in
    let due = needed found (IsAnswerOf p form c.args.query.now) (IsTableOfWanted c.in-Ok.pieces.size spans c.args.query.now) c.find_answer-outcome.result c.hand_over.ensures said right lists in
    let here = subst (λ (it : Form). IsAnswerOf p it c.args.query.now due.0 ⊎ IsTableOfWanted c.in-Ok.pieces.size spans c.args.query.now due.0) same due.2 in
    (due.0, due.1, subst (λ (size : ℕ). IsAnswerOf p asked c.args.query.now due.0 ⊎ IsTableOfWanted size spans c.args.query.now due.0) read.size_is here)

pub returns-in-Ok-clause-handed_over : goal.returns-in-Ok-clause-handed_over
returns-in-Ok-clause-handed_over c said =
    handed_over (handed c.hand_over.result c.hand_over.new.told c.hand_over.new.len c.args.room.now c.hand_over.new.room) c.find_answer-outcome.result c.hand_over.ensures said

pub returns-in-Ok-clause-nothing : goal.returns-in-Ok-clause-nothing
returns-in-Ok-clause-nothing c not_yes not_more not_short =
    nothing (handed c.hand_over.result c.hand_over.new.told c.hand_over.new.len c.args.room.now c.hand_over.new.room) c.find_answer-outcome.result c.hand_over.ensures not_yes not_more not_short
