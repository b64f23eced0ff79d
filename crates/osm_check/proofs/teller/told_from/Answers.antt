use Rattle.std.proofs.Common.{◌≡◌, ◌∙◌, Err, ap, inl, inr, ℕ, List, [], subst, sym}
use Rattle.std.proofs.lemmas.Result.{err_from_is_err_and}
use Rattle.ql_syntax.specs.StatementViews.{statements_of}
use Rattle.tree_node.specs.Bags.{BagHolds, BagUsed}
use Rattle.tree_node.specs.internal.BagLaws.{marked_held}
use Rattle.osm_forms.specs.Forms.{form_text}
use Rattle.ql_meaning.specs.Meanings.{Means_by}
use Rattle.ql_eval.specs.Work.{WorkOfQuery}
use Rattle.osm_check.specs.Budgets.{TellsWithin}
use Rattle.osm_prove.specs.Proofs.{nodes_of}
use Rattle.osm_prove.proofs.shared.PartNodes.{nodes_rise}
use Rattle.osm_check.proofs.BudgetLemmas.{fault_within, no_used_clash}
use Rattle.osm_check.proofs.Judgements.{all_used, listed_in, one_unused, refused, stopped_judged}
use Rattle.osm_check.proofs.Reports.{report_is}
use Rattle.osm_check.proofs.ToldLemmas.{why_of_no_answer}
use Rattle.osm_check.proofs.teller.told_from.Goals as goal

pub returns-in-Err-clause-told : goal.returns-in-Err-clause-told
returns-in-Err-clause-told c =
    let after = c.evaluate_within.new.shelf in
    let listed = listed_in c.args.parts.items c.in_ok-bag.bag after c.in_ok-bag.ensures.holds c.in-Err.ensures.stays in
    let of = c.in_ok-stopped-in-Err.ensures in (
      why_of_no_answer c.in-Err.fault _ of,
      λ answer.
          stopped_judged c.args.root.now.0 (statements_of c.args.query.now) answer (nodes_of c.args.parts.items) c.in-Err.fault _ of
          (λ p is root. refused p (statements_of c.args.query.now) answer (nodes_of c.args.parts.items) (BagHolds after) (BagUsed c.in_ok-bag.bag) (BagUsed after)
          listed c.in_ok-bag.ensures.unused (λ x used. marked_held after.parts.items after.marks.items x used) c.in-Err.fault _ of (c.in-Err.ensures.answer p is root)),
    )

pub returns-then-not-all_used-clause-told : goal.returns-then-not-all_used-clause-told
returns-then-not-all_used-clause-told c =
    let after = c.evaluate_within.new.shelf in
    let listed = listed_in c.args.parts.items c.in_ok-bag.bag after c.in_ok-bag.ensures.holds c.in-Ok.ensures.stays in
    let unused = c.all_used.ensures.unused c.if-not-all_used.true in (
      tt,
      λ answer. record {
        inside = tt;
        reported = tt;
        tells = λ p is root. one_unused p (statements_of c.args.query.now) answer (nodes_of c.args.parts.items) (BagHolds after) (BagUsed c.in_ok-bag.bag) (BagUsed after)
            listed c.in_ok-bag.ensures.unused (λ x used. marked_held after.parts.items after.marks.items x used) c.in-Ok.report (c.in-Ok.ensures.answer p is root) unused.0 unused.1 unused.2;
      },
    )

pub returns-clause-told : goal.returns-clause-told
returns-clause-told c =
    let after = c.evaluate_within.new.shelf in
    let nodes = nodes_of c.args.parts.items in
    let statements = statements_of c.args.query.now in
    let listed = listed_in c.args.parts.items c.in_ok-bag.bag after c.in_ok-bag.ensures.holds c.in-Ok.ensures.stays in
    let all = c.all_used.ensures.used.0 c.if-not-all_used.false in
    let walked = c.in-Ok.ensures.report in (
      report_is nodes c.in-Ok.report walked.0 (BagHolds after) (BagUsed c.in_ok-bag.bag) (BagUsed after) c.requires.fit (nodes_rise c.args.parts.items c.requires.rising) listed c.in_ok-bag.ensures.unused walked.1 all walked.3,
      λ p is root. elim (all_used p statements [] nodes (BagHolds after) (BagUsed c.in_ok-bag.bag) (BagUsed after) listed c.in_ok-bag.ensures.unused (λ x used. marked_held after.parts.items after.marks.items x used)
          c.in-Ok.report (c.in-Ok.ensures.answer p is root) all) [
            | inl (just, (text, means, written)) ↦
                (let same : c.evaluate_within.new.sink.items ≡ text = written.all [] c.new-text.ensures.items in
                inl (just, subst (λ (bytes : List ℕ). Means_by (form_text c.args.form) p.objects statements bytes) (sym same) means))
            | inr clash ↦ inr clash
          ],
    )

pub returns-in_err-stopped-in-Err-clause-budget : goal.returns-in_err-stopped-in-Err-clause-budget
returns-in_err-stopped-in-Err-clause-budget c =
    let after = c.evaluate_within.new.shelf in
    let nodes = nodes_of c.args.parts.items in
    let told = err_from_is_err_and c.from_residual-in_err-stopped-in-Err.result c.from_residual-in_err-stopped-in-Err.ensures.1 in
    λ p is root clear.
    let work = WorkOfQuery (form_text c.args.form) p (statements_of c.args.query.now) in
    subst (TellsWithin work c.args.most) (sym (told.1 ∙ ap Err told.2))
    (fault_within work c.args.most c.in-Err.fault _ c.in_err-stopped-in-Err.ensures.1
    (c.in-Err.ensures.budget p is root (no_used_clash p nodes (BagHolds after) (BagUsed after) (listed_in c.args.parts.items c.in_ok-bag.bag after c.in_ok-bag.ensures.holds c.in-Err.ensures.stays)
    (λ x used. marked_held after.parts.items after.marks.items x used) clear)))

pub returns-clause-budget : goal.returns-clause-budget
returns-clause-budget c =
    let after = c.evaluate_within.new.shelf in
    λ p is root clear.
    c.in-Ok.ensures.budget p is root (no_used_clash p (nodes_of c.args.parts.items) (BagHolds after) (BagUsed after) (listed_in c.args.parts.items c.in_ok-bag.bag after c.in_ok-bag.ensures.holds c.in-Ok.ensures.stays)
    (λ x used. marked_held after.parts.items after.marks.items x used) clear)
