use Rattle.std.proofs.Common.{[], List, ℕ, Err, ap, subst, sym, ◌∙◌}
use Rattle.std.proofs.Math.Logic.{∥∥₁_map}
use Rattle.std.specs.declared.alloc.Global.{Global}
use Rattle.std.specs.declared.vec.Vec.{Vec}
use Rattle.tree_node.specs.Recorders.{RecorderHolds}
use Rattle.osm_forms.specs.Forms.{form_text}
use Rattle.osm_forms.specs.declared.form.Form.TheVariants.{Opl}
use Rattle.ql_syntax.specs.StatementViews.{statements_of}
use Rattle.ql_meaning.specs.Meanings.{Means}
use Rattle.ql_eval.specs.Work.{WorkOfQuery}
use Rattle.osm_prove.proofs.BudgetLemmas.{refused_within, within}
use Rattle.osm_prove.proofs.Proving.{all_held, askable_held}
use Rattle.osm_prove.proofs.evaluation.evaluate_over.Goals as goal

pub refusal_of-requires : goal.refusal_of-requires
refusal_of-requires c = ∥∥₁_map c.args.snapshot.now.own (λ held.
    c.in-Err.ensures.served held.0 held.1.is.published (ap (λ d. d.0) c.root.ensures ∙ held.1.root)
    (all_held held.0 (statements_of c.args.query.now) c.args.snapshot.now.stock (RecorderHolds c.args.shelf.now) (RecorderHolds c.evaluate_within.new.shelf)
    c.requires c.in-Err.ensures.stays held.1.nodes))

pub returns-in-Ok-clause-means : goal.returns-in-Ok-clause-means
returns-in-Ok-clause-means c = λ p held.
    let st = statements_of c.args.query.now in
    let ends = c.in-Ok.ensures.served p held.is.published (ap (λ d. d.0) c.root.ensures ∙ held.root)
    (all_held p st c.args.snapshot.now.stock (RecorderHolds c.args.shelf.now) (RecorderHolds c.evaluate_within.new.shelf) c.requires c.in-Ok.ensures.stays held.nodes) in
    subst (λ (text : List ℕ). Means p.objects st text) (sym (ends.0.2.all [] c.new-answer.ensures.items)) ends.0.1

pub returns-in-Ok-clause-needed : goal.returns-in-Ok-clause-needed
returns-in-Ok-clause-needed c = λ p held.
    let ends = c.in-Ok.ensures.served p held.is.published (ap (λ d. d.0) c.root.ensures ∙ held.root)
    (all_held p (statements_of c.args.query.now) c.args.snapshot.now.stock (RecorderHolds c.args.shelf.now) (RecorderHolds c.evaluate_within.new.shelf) c.requires c.in-Ok.ensures.stays held.nodes) in
    ends.1

pub returns-in-Ok-clause-budget : goal.returns-in-Ok-clause-budget
returns-in-Ok-clause-budget c = λ p held.
    within (WorkOfQuery (form_text Opl) p (statements_of c.args.query.now)) c.args.most _
    (c.in-Ok.ensures.whole p held.is.published (ap (λ d. d.0) c.root.ensures ∙ held.root)
    (askable_held p c.args.snapshot.now.stock (RecorderHolds c.args.shelf.now) (RecorderHolds c.evaluate_within.new.shelf) c.requires c.in-Ok.ensures.stays held.nodes))

pub returns-in-Err-clause-budget : goal.returns-in-Err-clause-budget
returns-in-Err-clause-budget c = λ p held.
    refused_within (Vec ℕ Global) (WorkOfQuery (form_text Opl) p (statements_of c.args.query.now)) c.args.most c.in-Err.fault c.refusal_of.result c.refusal_of.ensures.work c.refusal_of.ensures.only
    (c.in-Err.ensures.whole p held.is.published (ap (λ d. d.0) c.root.ensures ∙ held.root)
    (askable_held p c.args.snapshot.now.stock (RecorderHolds c.args.shelf.now) (RecorderHolds c.evaluate_within.new.shelf) c.requires c.in-Err.ensures.stays held.nodes))

pub returns-in-Err-clause-limited : goal.returns-in-Err-clause-limited
returns-in-Err-clause-limited c = λ none same.
    c.in-Err.ensures.limited none (ap Err (c.refusal_of.ensures.work.0 (let e = same in cc)))
