use Rattle.tree_build.specs.StrangeShelves.{HasNoTwin}
use Rattle.tree_node.specs.Trees.{IsNodeOf}
use Rattle.tree_node.specs.declared.tree.Tree.TheVariants.{Objects}
use Rattle.osm_keys.specs.Publications.{tree_in}
use Rattle.osm_index.specs.internal.Applying.{RefusesChanges}
use Rattle.osm_index.specs.internal.Putting.{IsTreeNode}
use Rattle.osm_index.specs.internal.Updates.{RefusedBy, RefusesTrees, RefusesUpdate}
use Rattle.osm_index.proofs.ChangeTreeLemmas.{refused_as}
use Rattle.osm_index.proofs.PlanLemmas.{changing, planned, refused_changes, refused_trees, tree_under, under_before}
use Rattle.osm_index.proofs.ToldLemmas.{told_more}
use Rattle.osm_index.proofs.update_plan.UpdatePlan.new.Goals as goal

pub returns-in_err-objects-clause-told : goal.returns-in_err-objects-clause-told
returns-in_err-objects-clause-told g c = λ p under.
    let manifest = c.args.manifest.now in
    let all = c.args.changes.now in
    let alone = HasNoTwin (g.S.Shelf.used c.object_changes.new.shelf) in
    let there = g.S.Shelf.holds c.object_changes.new.shelf in
    let fault = c.in_err-objects.field-0.0 in
    refused_as (RefusedBy (RefusesUpdate p all) (IsTreeNode p) there) c.from_residual-in_err-objects.result fault c.from_residual-in_err-objects.ensures.1
    (told_more (RefusesChanges p.objects all) (RefusesUpdate p all) (IsNodeOf (tree_in p Objects)) (IsTreeNode p) there
    (refused_changes p manifest alone under c.in_ok-edition.edition c.in_ok-edition.ensures.next all) (λ x is. (Objects, is)) fault (c.in_err-objects.ensures.told p (tree_under p manifest alone under Objects)))

pub returns-in_err-changes-clause-told : goal.returns-in_err-changes-clause-told
returns-in_err-changes-clause-told g c = λ p under.
    let manifest = c.args.manifest.now in
    let all = c.args.changes.now in
    let next = c.in_ok-edition.edition in
    let after = c.in_ok-edition.ensures.next in
    let was = HasNoTwin (g.S.Shelf.used c.object_changes.new.shelf) in
    let alone = HasNoTwin (g.S.Shelf.used c.tree_changes.new.shelf) in
    let there = g.S.Shelf.holds c.tree_changes.new.shelf in
    let before = under_before p manifest (g.S.Shelf.used c.object_changes.new.shelf) (g.S.Shelf.used c.tree_changes.new.shelf) c.tree_changes.ensures.grows under in
    let given = c.in_ok-objects.ensures.given p (tree_under p manifest was before Objects) in
    let new = changing p manifest alone under next after all c.in_ok-objects.objects given in
    let fault = c.in_err-changes.field-0.0 in
    refused_as (RefusedBy (RefusesUpdate p all) (IsTreeNode p) there) c.from_residual-in_err-changes.result fault c.from_residual-in_err-changes.ensures.1
    (told_more (RefusesTrees new.0) (RefusesUpdate p all) (IsTreeNode p) (IsTreeNode p) there
    (refused_trees p manifest alone under next after all c.in_ok-objects.objects given new.0 new.1) (λ x is. is) fault (c.in_err-changes.ensures.told p new.0 new.1))

pub returns-clause-planned : goal.returns-clause-planned
returns-clause-planned g c = λ p under.
    let manifest = c.args.manifest.now in
    let all = c.args.changes.now in
    let next = c.in_ok-edition.edition in
    let after = c.in_ok-edition.ensures.next in
    let was = HasNoTwin (g.S.Shelf.used c.object_changes.new.shelf) in
    let alone = HasNoTwin (g.S.Shelf.used c.tree_changes.new.shelf) in
    let before = under_before p manifest (g.S.Shelf.used c.object_changes.new.shelf) (g.S.Shelf.used c.tree_changes.new.shelf) c.tree_changes.ensures.grows under in
    let given = c.in_ok-objects.ensures.given p (tree_under p manifest was before Objects) in
    let new = changing p manifest alone under next after all c.in_ok-objects.objects given in
    planned p manifest alone under next after all c.in_ok-objects.objects given new.0 new.1 c.in_ok-changes.changes (c.in_ok-changes.ensures.changed p new.0 new.1)
