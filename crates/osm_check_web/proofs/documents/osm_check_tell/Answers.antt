-- A root of a publication has 32 bytes, the form is the one that was asked for, and what is handed over is what was told.
use Rattle.std.proofs.Common.{◌≡◌, ◌⊎◌, ◌∙◌, inl, inr, ℕ, List, Ok, ap, length, subst, sym, take}
use Rattle.std.proofs.lemmas.Bool.{false≢true}
use Rattle.tree_node.specs.Outcomes.{Clash}
use Rattle.tree_node.proofs.shared.TreeLaws.{digest_len}
use Rattle.osm_forms.specs.Documents.{document_in}
use Rattle.osm_forms.specs.declared.form.Form.{Form}
use Rattle.osm_keys.specs.Publications.{IsNodeIn, Publication, manifest_of, root_of}
use Rattle.osm_check.specs.Telling.{IsProvedIn, TellsText}
use Rattle.osm_check.specs.Verdicts.{StandsIn}
use Rattle.osm_check_web.specs.ToldDocuments.{IsHandedOver, IsProvedDocument, handed}
use Rattle.osm_check_web.proofs.DocumentLemmas.{headline, honest, only, same_form}
use Rattle.osm_check_web.proofs.documents.osm_check_tell.Goals as goal

root_len : (root : List ℕ) (p : Publication) → root ≡ root_of p → length root ≡ 32
root_len root p is = ap length is ∙ digest_len (manifest_of p)

pub returns-in_default-clause-honest : goal.returns-in_default-clause-honest
returns-in_default-clause-honest c p asked text is root_is form_is right =
    absurd (false≢true (c.in_default.ensures.some.1 (root_len c.args.root.now p root_is)))

pub returns-in_default-clause-only : goal.returns-in_default-clause-only
returns-in_default-clause-only c p asked why is root_is form_is tells =
    absurd (false≢true (c.in_default.ensures.some.1 (root_len c.args.root.now p root_is)))

pub returns-in-Ok-clause-headline : goal.returns-in-Ok-clause-headline
returns-in-Ok-clause-headline c p asked is root_is form_is said =
    let form = c.in-Some-form_of.form in
    let same : form ≡ asked = same_form form asked (c.in-Some-form_of.ensures ∙ sym form_is) in
    let found = handed c.hand_over.result c.hand_over.new.told c.hand_over.new.size c.args.room.now c.hand_over.new.room in
    let shown = headline form found p c.args.query.now c.args.proof.now (Clash (IsNodeIn p) (StandsIn c.args.proof.now)) c.in-Ok.answer c.hand_over.ensures said
    (λ text report answer_is. c.tell.ensures.headline p text report is (c.in-Some.ensures.same ∙ root_is) (c.in-Ok.is ∙ ap Ok answer_is)) in
    subst (λ (it : Form). IsProvedDocument p c.args.query.now it c.args.proof.now (take c.hand_over.new.size c.hand_over.new.room) ⊎ Clash (IsNodeIn p) (StandsIn c.args.proof.now)) same shown

pub returns-in-Ok-clause-honest : goal.returns-in-Ok-clause-honest
returns-in-Ok-clause-honest c p asked text is root_is form_is right =
    let form = c.in-Some-form_of.form in
    let same : asked ≡ form = same_form asked form (form_is ∙ sym c.in-Some-form_of.ensures) in
    let found = handed c.hand_over.result c.hand_over.new.told c.hand_over.new.size c.args.room.now c.hand_over.new.room in
    let right_in = subst (λ (it : Form). IsProvedIn p c.args.query.now it text c.args.proof.now) same right in
    let told : TellsText text c.in-Ok.answer = c.in-Ok.ensures.honest p text is (c.in-Some.ensures.same ∙ root_is) right_in in
    inr (subst (λ (it : Form). IsHandedOver found (document_in it text)) (sym same) (honest form found text c.in-Ok.answer c.hand_over.ensures told))

pub returns-in-Ok-clause-only : goal.returns-in-Ok-clause-only
returns-in-Ok-clause-only c p asked why is root_is form_is tells =
    let form = c.in-Some-form_of.form in
    let found = handed c.hand_over.result c.hand_over.new.told c.hand_over.new.size c.args.room.now c.hand_over.new.room in
    elim (c.in-Ok.ensures.only p why is (c.in-Some.ensures.same ∙ root_is) tells) [
      | inl told ↦ inr (inl (only form found why c.in-Ok.answer c.hand_over.ensures told))
      | inr clash ↦ inr (inr clash)
    ]
