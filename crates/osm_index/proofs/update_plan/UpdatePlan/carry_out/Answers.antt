use Rattle.tree_build.specs.StrangeShelves.{HasNoTwin, cause_of}
use Rattle.tree_build.specs.declared.rebuild_fault.RebuildFault.{RebuildFault}
use Rattle.tree_node.specs.Outcomes.{RefusedFor}
use Rattle.osm_index.specs.internal.Putting.{IsTreeNode}
use Rattle.osm_index.proofs.ChangeTreeLemmas.{refused_as}
use Rattle.osm_index.proofs.PlanLemmas.{plan_trees, published_next, unlike, updates}
use Rattle.osm_index.proofs.SnapshotLemmas.{trees_free}
use Rattle.osm_index.proofs.update_plan.UpdatePlan.carry_out.Goals as goal

pub returns-in_err-trees-clause-told : goal.returns-in_err-trees-clause-told
returns-in_err-trees-clause-told g c = λ p all under is.
    let there = g.S.Shelf.holds c.change_trees.new.shelf in
    let trees = plan_trees p c.args.manifest.now (HasNoTwin (g.S.Shelf.used c.change_trees.new.shelf)) under all c.args.self.now is in
    refused_as (λ (fault : RebuildFault). RefusedFor (IsTreeNode p) there (cause_of fault)) c.from_residual.result c.in_err-trees.field-0.0 c.from_residual.ensures.1
    (c.in_err-trees.ensures.told p is.removed is.puts is.set trees is.changes)

pub returns-clause-made : goal.returns-clause-made
returns-clause-made g c = λ p all under free root_is is.
    let plan = c.args.self.now in
    let trees = plan_trees p c.args.manifest.now (HasNoTwin (g.S.Shelf.used c.change_trees.new.shelf)) under all plan is in
    let (q, is_q, changed) = c.in_ok-trees.ensures.changed p is.removed is.puts is.set trees (trees_free p free) is.changes in
    updates p all plan is q is_q c.in_ok-update_of.field-0
    (c.in_ok-update_of.ensures.made p q (published_next p all plan is q is_q) changed root_is (unlike p all plan is q is_q) free)
