use Rattle.tree_build.specs.StrangeShelves.{HasNoTwin}
use Rattle.tree_node.specs.declared.tree.Tree.TheVariants.{Objects, Tags, Cells, Backs}
use Rattle.osm_index.specs.internal.Putting.{IsTreeNode}
use Rattle.osm_index.specs.internal.Updates.{RefusedBy, RefusesTrees}
use Rattle.osm_index.proofs.ChangeTreeLemmas.{one_of_four, refused_as, trees_before}
use Rattle.osm_index.proofs.HeldTreeLemmas.{stays_then}
use Rattle.osm_index.proofs.ToldLemmas.{told_of_one}
use Rattle.osm_index.proofs.tree_changes.tree_changes.Goals as goal

pub returns-in_err-objects-clause-told : goal.returns-in_err-objects-clause-told
returns-in_err-objects-clause-told g c = λ p set h.
    let used = g.S.Shelf.used c.one_tree.new.shelf in
    let there = g.S.Shelf.holds c.one_tree.new.shelf in
    refused_as (RefusedBy (RefusesTrees set) (IsTreeNode p) there) c.from_residual.result c.in_err-objects.field-0.0 c.from_residual.ensures.1
    (told_of_one p c.args.removed.now c.args.puts.now set c.args.tops.now (HasNoTwin used) there h Objects c.in_err-objects.field-0.0 (c.in_err-objects.ensures.told p set))

pub returns-in_err-tags-clause-stays : goal.returns-in_err-tags-clause-stays
returns-in_err-tags-clause-stays g c = stays_then _ _ _ _ c.one_tree.ensures.stays c.one_tree-2.ensures.stays

pub returns-in_err-tags-clause-told : goal.returns-in_err-tags-clause-told
returns-in_err-tags-clause-told g c = λ p set h.
    let used = g.S.Shelf.used c.one_tree-2.new.shelf in
    let there = g.S.Shelf.holds c.one_tree-2.new.shelf in
    refused_as (RefusedBy (RefusesTrees set) (IsTreeNode p) there) c.from_residual-in_err-tags.result c.in_err-tags.field-0.0 c.from_residual-in_err-tags.ensures.1
    (told_of_one p c.args.removed.now c.args.puts.now set c.args.tops.now (HasNoTwin used) there h Tags c.in_err-tags.field-0.0 (c.in_err-tags.ensures.told p set))

pub returns-in_err-cells-clause-stays : goal.returns-in_err-cells-clause-stays
returns-in_err-cells-clause-stays g c = stays_then _ _ _ _ (stays_then _ _ _ _ c.one_tree.ensures.stays c.one_tree-2.ensures.stays) c.one_tree-3.ensures.stays

pub returns-in_err-cells-clause-told : goal.returns-in_err-cells-clause-told
returns-in_err-cells-clause-told g c = λ p set h.
    let used = g.S.Shelf.used c.one_tree-3.new.shelf in
    let there = g.S.Shelf.holds c.one_tree-3.new.shelf in
    refused_as (RefusedBy (RefusesTrees set) (IsTreeNode p) there) c.from_residual-in_err-cells.result c.in_err-cells.field-0.0 c.from_residual-in_err-cells.ensures.1
    (told_of_one p c.args.removed.now c.args.puts.now set c.args.tops.now (HasNoTwin used) there h Cells c.in_err-cells.field-0.0 (c.in_err-cells.ensures.told p set))

pub returns-in_err-backs-clause-stays : goal.returns-in_err-backs-clause-stays
returns-in_err-backs-clause-stays g c = stays_then _ _ _ _ (stays_then _ _ _ _ (stays_then _ _ _ _ c.one_tree.ensures.stays c.one_tree-2.ensures.stays) c.one_tree-3.ensures.stays) c.one_tree-4.ensures.stays

pub returns-in_err-backs-clause-told : goal.returns-in_err-backs-clause-told
returns-in_err-backs-clause-told g c = λ p set h.
    let used = g.S.Shelf.used c.one_tree-4.new.shelf in
    let there = g.S.Shelf.holds c.one_tree-4.new.shelf in
    refused_as (RefusedBy (RefusesTrees set) (IsTreeNode p) there) c.from_residual-in_err-backs.result c.in_err-backs.field-0.0 c.from_residual-in_err-backs.ensures.1
    (told_of_one p c.args.removed.now c.args.puts.now set c.args.tops.now (HasNoTwin used) there h Backs c.in_err-backs.field-0.0 (c.in_err-backs.ensures.told p set))

pub returns-clause-stays : goal.returns-clause-stays
returns-clause-stays g c = stays_then _ _ _ _ (stays_then _ _ _ _ (stays_then _ _ _ _ c.one_tree.ensures.stays c.one_tree-2.ensures.stays) c.one_tree-3.ensures.stays) c.one_tree-4.ensures.stays

pub returns-clause-changed : goal.returns-clause-changed
returns-clause-changed g c = λ p set h.
    let removed = c.args.removed.now in
    let puts = c.args.puts.now in
    let tops = c.args.tops.now in
    let used = g.S.Shelf.used in
    let third = trees_before p removed puts set tops (used c.one_tree-3.new.shelf) (used c.one_tree-4.new.shelf) c.one_tree-4.ensures.grows h in
    let second = trees_before p removed puts set tops (used c.one_tree-2.new.shelf) (used c.one_tree-3.new.shelf) c.one_tree-3.ensures.grows third in
    let first = trees_before p removed puts set tops (used c.one_tree.new.shelf) (used c.one_tree-2.new.shelf) c.one_tree-2.ensures.grows second in
    record {
      objects = c.in_ok-objects.ensures.changed p set (one_of_four p removed puts set tops (HasNoTwin (used c.one_tree.new.shelf)) first Objects);
      tags = c.in_ok-tags.ensures.changed p set (one_of_four p removed puts set tops (HasNoTwin (used c.one_tree-2.new.shelf)) second Tags);
      cells = c.in_ok-cells.ensures.changed p set (one_of_four p removed puts set tops (HasNoTwin (used c.one_tree-3.new.shelf)) third Cells);
      backs = c.in_ok-backs.ensures.changed p set (one_of_four p removed puts set tops (HasNoTwin (used c.one_tree-4.new.shelf)) h Backs);
    }
