use Rattle.std.proofs.Common.{◌≡◌, Bool, true, false, inl, ℕ, Option, refl, subst}
use Rattle.tree_node.proofs.shared.OutcomeLaws.{memory_stops, outcome_as}
use Rattle.ql_syntax.specs.StatementViews.{statements_of}
use Rattle.osm_forms.specs.Forms.{form_text}
use Rattle.ql_eval.specs.Work.{Passes, WorkOfQuery}
use Rattle.ql_eval.specs.declared.fault.EvalFault.TheVariants as faults
use Rattle.ql_eval.specs.internal.Metering.{IsBounded, IsSpent}
use Rattle.ql_eval.proofs.MeterLemmas.{kept, over}
use Rattle.ql_eval.proofs.evaluation.run_within.Goals as goal

not_both : (b : Bool) → b ≡ true → b ≡ false → ⊥
not_both b is other = cc

pub returns-then-passes-clause-told : goal.returns-then-passes-clause-told
returns-then-passes-clause-told g c = inl refl

pub returns-then-passes-clause-limited : goal.returns-then-passes-clause-limited
returns-then-passes-clause-limited g c = λ none same. subst (λ (most : Option ℕ). Passes most c.run_over-ran.new.meter.spent) none (c.passes.ensures.told.0 c.if-passes.true)

pub returns-then-passes-clause-answer : goal.returns-then-passes-clause-answer
returns-then-passes-clause-answer g c = λ p is under query. memory_stops faults.Work refl refl

pub returns-then-passes-clause-budget : goal.returns-then-passes-clause-budget
returns-then-passes-clause-budget g c = λ p is under query clear.
    let work = WorkOfQuery (form_text c.args.form) p (statements_of c.args.statements.now) in
    over work c.args.most c.run_over-ran.new.meter.spent (c.passes.ensures.told.0 c.if-passes.true)
    (subst (λ (old : ℕ). IsBounded work old c.run_over-ran.new.meter.spent) c.new-meter.ensures (c.run_over-ran.ensures.bounded p is under query clear))

pub returns-clause-budget : goal.returns-clause-budget
returns-clause-budget g c = λ p is under query clear.
    let work = WorkOfQuery (form_text c.args.form) p (statements_of c.args.statements.now) in
    let spent = c.run_over-ran.new.meter.spent in
    kept work c.args.most spent c.told.result c.passes.ensures.fits (λ over. not_both c.passes.result (c.passes.ensures.told.1 over) c.if-passes.false) c.told.ensures
    (subst (λ (old : ℕ). IsBounded work old spent) c.new-meter.ensures (c.run_over-ran.ensures.bounded p is under query clear))
    (subst (λ (old : ℕ). IsSpent work old spent) c.new-meter.ensures (c.in_ok-ran.ensures.spent p is under query clear))

pub returns-clause-answer : goal.returns-clause-answer
returns-clause-answer g c = λ p is under query. outcome_as (λ x needs. needs) (λ so x needs. needs) (λ so. so) (c.in_ok-ran.ensures.answer p is under query)
