use Rattle.std.proofs.Common.{◌⊎◌, List, Ok, inl, ℕ, ap, subst}
use Rattle.osm_forms.specs.Forms.{form_text}
use Rattle.osm_prove.specs.Budgets.{IsWorkOf}
use Rattle.osm_check.specs.Budgets.{TellsWithin}
use Rattle.osm_check.specs.declared.told.Told.{Told}
use Rattle.tree_node.specs.Outcomes.{Clash}
use Rattle.osm_keys.specs.Publications.{IsNodeIn}
use Rattle.osm_check.specs.Telling.{IsProvedIn, IsTold, TellsText}
use Rattle.osm_check.specs.Verdicts.{StandsIn}
use Rattle.mirror_answer.specs.Showing.{Wanted}
use Rattle.mirror_answer.proofs.ShownLemmas.{same_items, shown_right}
use Rattle.mirror_answer.proofs.judging.show.Goals as goal

pub returns-in-Ok-Answer-clause-headline : goal.returns-in-Ok-Answer-clause-headline
returns-in-Ok-Answer-clause-headline c = λ p text published root same.
    let proof = c.args.parts.proof.now in
    subst (λ (items : List ℕ). IsProvedIn p c.args.query.now c.args.form items proof ⊎ Clash (IsNodeIn p) (StandsIn proof)) (same_items c.in-Ok-Answer.text text same)
    (c.in-Ok-Answer.ensures.headline p c.in-Ok-Answer.text c.in-Ok-Answer.field-0-1 published root (ap Ok c.in-Ok-Answer.field-0-is))

pub returns-in-Ok-Answer-clause-honest : goal.returns-in-Ok-Answer-clause-honest
returns-in-Ok-Answer-clause-honest c = λ p text published root proved.
    inl (subst (TellsText text) c.in-Ok-Answer.field-0-is (c.in-Ok-Answer.ensures.honest p text published root proved))

pub returns-in-Ok-No-clause-honest : goal.returns-in-Ok-No-clause-honest
returns-in-Ok-No-clause-honest c = λ p text published root proved.
    absurd (subst (TellsText text) c.in-Ok-No.field-0-is (c.in-Ok-No.ensures.honest p text published root proved))

pub returns-in-Ok-No-clause-rightly : goal.returns-in-Ok-No-clause-rightly
returns-in-Ok-No-clause-rightly c =
    let w : Wanted = record { query = c.args.query.now; root = c.args.root.now.0; form = c.args.form; most = c.args.most } in
    shown_right w _ _ c.in-Ok-No.why _ (subst (IsTold w.query w.root w.form c.args.parts.proof.now) c.in-Ok-No.field-0-is c.in-Ok-No.ensures.told) c.shown_for.ensures

pub returns-in-Ok-Answer-clause-rightly : goal.returns-in-Ok-Answer-clause-rightly
returns-in-Ok-Answer-clause-rightly c = (
  c.in-Ok-Answer.field-0-1,
  record {
    shown = subst (IsTold c.args.query.now c.args.root.now.0 c.args.form c.args.parts.proof.now) c.in-Ok-Answer.field-0-is c.in-Ok-Answer.ensures.told;
    within = λ p published root clear.
        let kept = subst (λ (told : Told). TellsWithin (IsWorkOf (form_text c.args.form) p c.args.query.now) c.args.most (Ok told)) c.in-Ok-Answer.field-0-is (c.in-Ok-Answer.ensures.budget p published root clear) in
        (kept.0, kept.1, kept.2);
  },
)
