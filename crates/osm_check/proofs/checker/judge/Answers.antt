use Rattle.std.proofs.Common.{◌∙◌, Err, Ok, ap, refl, sym, subst}
use Rattle.std.proofs.lemmas.Result.{err_from_is_err_and}
use Rattle.osm_forms.specs.Forms.{form_text}
use Rattle.osm_forms.specs.declared.form.Form.TheVariants.{Opl}
use Rattle.ql_syntax.specs.StatementViews.{statements_of}
use Rattle.tree_node.specs.Bags.{BagHolds, BagUsed}
use Rattle.tree_node.specs.internal.BagLaws.{marked_held}
use Rattle.ql_eval.specs.Work.{WorkOfQuery}
use Rattle.osm_check.specs.Budgets.{KeepsBudget}
use Rattle.osm_check.specs.declared.verdict.Verdict.{Verdict}
use Rattle.osm_check.specs.internal.Judging.{IsJudged}
use Rattle.osm_prove.specs.Proofs.{nodes_of}
use Rattle.osm_prove.proofs.shared.PartNodes.{nodes_rise}
use Rattle.osm_check.proofs.BudgetLemmas.{fault_within, no_used_clash}
use Rattle.osm_check.proofs.Judgements.{listed_in, one_unused, refused, right, stopped_judged, wrong}
use Rattle.osm_check.proofs.Reports.{report_is}
use Rattle.osm_check.proofs.checker.judge.Goals.{in-Some, in-None}
use Rattle.osm_check.proofs.checker.judge.Goals as goal

pub returns-in-Err-clause-judged : goal.returns-in-Err-clause-judged
returns-in-Err-clause-judged c =
    let after = c.evaluate_within.new.shelf in
    let listed = listed_in c.args.parts.items c.in_ok-bag.bag after c.in_ok-bag.ensures.holds c.in-Err.ensures.stays in
    let of = c.in_ok-stopped-in-Err.ensures in
    stopped_judged c.args.root.now.0 (statements_of c.args.query.now) c.args.answer.now (nodes_of c.args.parts.items) c.in-Err.fault _ of
    (λ p is root. refused p (statements_of c.args.query.now) c.args.answer.now (nodes_of c.args.parts.items) (BagHolds after) (BagUsed c.in_ok-bag.bag) (BagUsed after)
    listed c.in_ok-bag.ensures.unused (λ x used. marked_held after.parts.items after.marks.items x used) c.in-Err.fault _ of (c.in-Err.ensures.answer p is root))

pub returns-then-not-all_used-clause-judged : goal.returns-then-not-all_used-clause-judged
returns-then-not-all_used-clause-judged c =
    let after = c.evaluate_within.new.shelf in
    let listed = listed_in c.args.parts.items c.in_ok-bag.bag after c.in_ok-bag.ensures.holds c.in-Ok.ensures.stays in
    let unused = c.all_used.ensures.unused c.if-not-all_used.true in
    record {
      inside = tt;
      reported = tt;
      tells = λ p is root. one_unused p (statements_of c.args.query.now) c.args.answer.now (nodes_of c.args.parts.items) (BagHolds after) (BagUsed c.in_ok-bag.bag) (BagUsed after)
          listed c.in_ok-bag.ensures.unused (λ x used. marked_held after.parts.items after.marks.items x used) c.in-Ok.report (c.in-Ok.ensures.answer p is root) unused.0 unused.1 unused.2;
    }

pub returns-clause-judged : goal.returns-clause-judged
returns-clause-judged c =
    let after = c.evaluate_within.new.shelf in
    let nodes = nodes_of c.args.parts.items in
    let statements = statements_of c.args.query.now in
    let listed = listed_in c.args.parts.items c.in_ok-bag.bag after c.in_ok-bag.ensures.holds c.in-Ok.ensures.stays in
    let all = c.all_used.ensures.used.0 c.if-not-all_used.false in
    let expects = c.in-Ok.ensures.kept ∙ c.new-matcher.ensures.expected in
    elim c.match-difference.branch [
      | in-Some w ↦ subst (λ (v : Verdict). IsJudged c.args.root.now.0 statements c.args.answer.now nodes v) (sym w.result-is) (record {
        inside = tt;
        reported = tt;
        tells = λ p is root. wrong p statements c.args.answer.now nodes (BagHolds after) (BagUsed c.in_ok-bag.bag) (BagUsed after)
            listed c.in_ok-bag.ensures.unused (λ x used. marked_held after.parts.items after.marks.items x used)
            c.new-matcher.result c.evaluate_within.new.sink expects c.new-matcher.ensures.nothing c.in-Ok.report (c.in-Ok.ensures.answer p is root) all w.in-Some.byte w.in-Some.ensures.place;
      })
      | in-None w ↦ subst (λ (v : Verdict). IsJudged c.args.root.now.0 statements c.args.answer.now nodes v) (sym w.result-is) (record {
        inside = tt;
        reported =
            let walked = c.in-Ok.ensures.report in
            report_is nodes c.in-Ok.report walked.0 (BagHolds after) (BagUsed c.in_ok-bag.bag) (BagUsed after) c.requires.fit (nodes_rise c.args.parts.items c.requires.rising) listed c.in_ok-bag.ensures.unused walked.1 all walked.3;
        tells = λ p is root. right p statements c.args.answer.now nodes (BagHolds after) (BagUsed c.in_ok-bag.bag) (BagUsed after)
            listed c.in_ok-bag.ensures.unused (λ x used. marked_held after.parts.items after.marks.items x used)
            c.new-matcher.result c.evaluate_within.new.sink expects c.new-matcher.ensures.nothing c.in-Ok.report (c.in-Ok.ensures.answer p is root) all (λ text stands. w.in-None.ensures.none text stands refl);
      })
    ]

pub returns-in_err-stopped-in-Err-clause-budget : goal.returns-in_err-stopped-in-Err-clause-budget
returns-in_err-stopped-in-Err-clause-budget c =
    let after = c.evaluate_within.new.shelf in
    let nodes = nodes_of c.args.parts.items in
    let told = err_from_is_err_and c.from_residual-in_err-stopped-in-Err.result c.from_residual-in_err-stopped-in-Err.ensures.1 in
    λ p is root clear.
    let work = WorkOfQuery (form_text Opl) p (statements_of c.args.query.now) in
    subst (KeepsBudget work c.args.most) (sym (told.1 ∙ ap Err told.2))
    (fault_within work c.args.most c.in-Err.fault _ c.in_err-stopped-in-Err.ensures.1
    (c.in-Err.ensures.budget p is root (no_used_clash p nodes (BagHolds after) (BagUsed after) (listed_in c.args.parts.items c.in_ok-bag.bag after c.in_ok-bag.ensures.holds c.in-Err.ensures.stays)
    (λ x used. marked_held after.parts.items after.marks.items x used) clear)))

pub returns-clause-budget : goal.returns-clause-budget
returns-clause-budget c =
    let after = c.evaluate_within.new.shelf in
    let nodes = nodes_of c.args.parts.items in
    λ p is root clear.
    let work = WorkOfQuery (form_text Opl) p (statements_of c.args.query.now) in
    elim c.match-difference.branch [
      | in-Some w ↦ subst (λ (v : Verdict). KeepsBudget work c.args.most (Ok v)) (sym w.result-is) tt
      | in-None w ↦ subst (λ (v : Verdict). KeepsBudget work c.args.most (Ok v)) (sym w.result-is)
          (c.in-Ok.ensures.budget p is root (no_used_clash p nodes (BagHolds after) (BagUsed after) (listed_in c.args.parts.items c.in_ok-bag.bag after c.in_ok-bag.ensures.holds c.in-Ok.ensures.stays)
          (λ x used. marked_held after.parts.items after.marks.items x used) clear))
    ]
