use Rattle.std.proofs.Common.{Err, subst, sym}
use Rattle.std.specs.Prelude.{ℕ}
use Rattle.std.specs.declared.alloc.Global.{Global}
use Rattle.std.specs.declared.vec.Vec.{Vec}
use Rattle.tree_node.specs.Keys.{key_of}
use Rattle.osm_forms.specs.Forms.{form_text}
use Rattle.osm_prove.specs.Budgets.{IsWorkOf}
use Rattle.ql_syntax.specs.StatementViews.{statements_of}
use Rattle.outside_shelf.specs.Shelves.{HasBrought}
use Rattle.osm_packs.specs.Querying.{KeepsBudget}
use Rattle.osm_packs.specs.internal.Faults.{IsOfNodes}
use Rattle.osm_packs.specs.declared.not_answered.NotAnswered.{NotAnswered}
use Rattle.osm_packs.proofs.QueryLemmas.{budget_kept, no_clash, of_nodes, right_text}
use Rattle.osm_packs.proofs.answer_text.answer_text.Goals as goal

pub returns-in-Ok-clause-right : goal.returns-in-Ok-clause-right
returns-in-Ok-clause-right g c = λ p text reads is root.
    let shelf = c.answer_from.new.shelf in
    right_text p c.args.form text (statements_of c.args.query.now) (HasBrought shelf) _ _ (λ node brought. shelf.bytes (key_of node) node brought) reads c.new-text.ensures.items (c.in-Ok.ensures.right p is root)

pub returns-in-Ok-clause-budget : goal.returns-in-Ok-clause-budget
returns-in-Ok-clause-budget g c = λ p text reads is root none.
    let shelf = c.answer_from.new.shelf in
    let (work, is_work, fits, told) = c.in-Ok.ensures.budget p is root (no_clash p (HasBrought shelf) (λ node brought. shelf.bytes (key_of node) node brought) none) in
    (work, record { statements = statements_of c.args.query.now; reads = reads; work = is_work }, fits)

pub returns-clause-budget : goal.returns-clause-budget
returns-clause-budget g c = λ p text reads is root none.
    let shelf = c.answer_from.new.shelf in
    let keeps = c.in-Err.ensures.budget p is root (no_clash p (HasBrought shelf) (λ node brought. shelf.bytes (key_of node) node brought) none) in
    subst (λ (fault : NotAnswered). KeepsBudget {A = Vec ℕ Global} (IsWorkOf (form_text c.args.form) p text) c.args.limits.work (Err fault)) (sym c.fault_of_answer.ensures)
    (budget_kept (Vec ℕ Global) p c.args.form text (statements_of c.args.query.now) c.args.limits.work c.in-Err.fault reads keeps)

pub returns-clause-told : goal.returns-clause-told
returns-clause-told g c = subst IsOfNodes (sym c.fault_of_answer.ensures) (of_nodes c.in-Err.fault)
