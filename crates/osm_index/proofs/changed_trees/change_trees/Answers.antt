use Rattle.std.proofs.Common.{List, ap}
use Rattle.tree_build.specs.Rebuilding.{changes_of}
use Rattle.tree_build.specs.StrangeShelves.{cause_of}
use Rattle.tree_build.specs.declared.change.EntryChange.{EntryChange}
use Rattle.tree_build.specs.declared.rebuild_fault.RebuildFault.{RebuildFault}
use Rattle.tree_node.specs.Outcomes.{RefusedFor}
use Rattle.tree_node.specs.declared.tree.Tree.TheVariants.{Objects, Tags, Cells, Backs}
use Rattle.osm_index.specs.internal.Putting.{IsTreeNode}
use Rattle.osm_index.proofs.ChangeTreeLemmas.{became, four_changed, refused_as, refused_one, trees_before}
use Rattle.osm_index.proofs.HeldTreeLemmas.{stays_then}
use Rattle.osm_index.proofs.changed_trees.change_trees.Goals as goal

pub returns-in_err-objects-clause-told : goal.returns-in_err-objects-clause-told
returns-in_err-objects-clause-told g c = λ p removed puts set h is.
    let used = g.S.Shelf.used c.rebuild.new.shelf in
    let there = g.S.Shelf.holds c.rebuild.new.shelf in
    let changes = c.args.changes.now.objects.items in
    let same = ap (λ (cs : List EntryChange). changes_of cs) c.deref.ensures.value in
    refused_as (λ (fault : RebuildFault). RefusedFor (IsTreeNode p) there (cause_of fault)) c.from_residual.result c.in_err-objects.field-0.0 c.from_residual.ensures.1
    (refused_one p removed puts set c.args.tops.now used h Objects (changes_of changes) is.objects (changes_of c.deref.result.now) same there c.in_err-objects.field-0.0 c.in_err-objects.ensures.told)

pub returns-in_err-tags-clause-stays : goal.returns-in_err-tags-clause-stays
returns-in_err-tags-clause-stays g c = stays_then _ _ _ _ c.rebuild.ensures.stays c.rebuild-2.ensures.stays

pub returns-in_err-tags-clause-told : goal.returns-in_err-tags-clause-told
returns-in_err-tags-clause-told g c = λ p removed puts set h is.
    let used = g.S.Shelf.used c.rebuild-2.new.shelf in
    let there = g.S.Shelf.holds c.rebuild-2.new.shelf in
    let changes = c.args.changes.now.tags.items in
    let same = ap (λ (cs : List EntryChange). changes_of cs) c.deref-2.ensures.value in
    refused_as (λ (fault : RebuildFault). RefusedFor (IsTreeNode p) there (cause_of fault)) c.from_residual-in_err-tags.result c.in_err-tags.field-0.0 c.from_residual-in_err-tags.ensures.1
    (refused_one p removed puts set c.args.tops.now used h Tags (changes_of changes) is.tags (changes_of c.deref-2.result.now) same there c.in_err-tags.field-0.0 c.in_err-tags.ensures.told)

pub returns-in_err-cells-clause-stays : goal.returns-in_err-cells-clause-stays
returns-in_err-cells-clause-stays g c = stays_then _ _ _ _ (stays_then _ _ _ _ c.rebuild.ensures.stays c.rebuild-2.ensures.stays) c.rebuild-3.ensures.stays

pub returns-in_err-cells-clause-told : goal.returns-in_err-cells-clause-told
returns-in_err-cells-clause-told g c = λ p removed puts set h is.
    let used = g.S.Shelf.used c.rebuild-3.new.shelf in
    let there = g.S.Shelf.holds c.rebuild-3.new.shelf in
    let changes = c.args.changes.now.cells.items in
    let same = ap (λ (cs : List EntryChange). changes_of cs) c.deref-3.ensures.value in
    refused_as (λ (fault : RebuildFault). RefusedFor (IsTreeNode p) there (cause_of fault)) c.from_residual-in_err-cells.result c.in_err-cells.field-0.0 c.from_residual-in_err-cells.ensures.1
    (refused_one p removed puts set c.args.tops.now used h Cells (changes_of changes) is.cells (changes_of c.deref-3.result.now) same there c.in_err-cells.field-0.0 c.in_err-cells.ensures.told)

pub returns-in_err-backs-clause-stays : goal.returns-in_err-backs-clause-stays
returns-in_err-backs-clause-stays g c = stays_then _ _ _ _ (stays_then _ _ _ _ (stays_then _ _ _ _ c.rebuild.ensures.stays c.rebuild-2.ensures.stays) c.rebuild-3.ensures.stays) c.rebuild-4.ensures.stays

pub returns-in_err-backs-clause-told : goal.returns-in_err-backs-clause-told
returns-in_err-backs-clause-told g c = λ p removed puts set h is.
    let used = g.S.Shelf.used c.rebuild-4.new.shelf in
    let there = g.S.Shelf.holds c.rebuild-4.new.shelf in
    let changes = c.args.changes.now.backs.items in
    let same = ap (λ (cs : List EntryChange). changes_of cs) c.deref-4.ensures.value in
    refused_as (λ (fault : RebuildFault). RefusedFor (IsTreeNode p) there (cause_of fault)) c.from_residual-in_err-backs.result c.in_err-backs.field-0.0 c.from_residual-in_err-backs.ensures.1
    (refused_one p removed puts set c.args.tops.now used h Backs (changes_of changes) is.backs (changes_of c.deref-4.result.now) same there c.in_err-backs.field-0.0 c.in_err-backs.ensures.told)

pub returns-in_err-all_of-clause-stays : goal.returns-in_err-all_of-clause-stays
returns-in_err-all_of-clause-stays g c = stays_then _ _ _ _ (stays_then _ _ _ _ (stays_then _ _ _ _ c.rebuild.ensures.stays c.rebuild-2.ensures.stays) c.rebuild-3.ensures.stays) c.rebuild-4.ensures.stays

pub returns-clause-stays : goal.returns-clause-stays
returns-clause-stays g c = stays_then _ _ _ _ (stays_then _ _ _ _ (stays_then _ _ _ _ c.rebuild.ensures.stays c.rebuild-2.ensures.stays) c.rebuild-3.ensures.stays) c.rebuild-4.ensures.stays

pub returns-clause-changed : goal.returns-clause-changed
returns-clause-changed g c = λ p removed puts set h free is.
    let tops = c.args.tops.now in
    let changes = c.args.changes.now in
    let used = g.S.Shelf.used in
    let given = λ (cs : List EntryChange). changes_of cs in
    let third = trees_before p removed puts set tops (used c.rebuild-3.new.shelf) (used c.rebuild-4.new.shelf) c.rebuild-4.ensures.grows h in
    let second = trees_before p removed puts set tops (used c.rebuild-2.new.shelf) (used c.rebuild-3.new.shelf) c.rebuild-3.ensures.grows third in
    let first = trees_before p removed puts set tops (used c.rebuild.new.shelf) (used c.rebuild-2.new.shelf) c.rebuild-2.ensures.grows second in
    four_changed p removed puts set tops _ free h c.in_ok-objects.objects c.in_ok-tags.tags c.in_ok-cells.cells c.in_ok-backs.backs
    (became p removed puts set tops (used c.rebuild.new.shelf) first Objects (changes_of changes.objects.items) is.objects (changes_of c.deref.result.now) (ap given c.deref.ensures.value) free c.in_ok-objects.objects c.in_ok-objects.ensures.rebuilt)
    (became p removed puts set tops (used c.rebuild-2.new.shelf) second Tags (changes_of changes.tags.items) is.tags (changes_of c.deref-2.result.now) (ap given c.deref-2.ensures.value) free c.in_ok-tags.tags c.in_ok-tags.ensures.rebuilt)
    (became p removed puts set tops (used c.rebuild-3.new.shelf) third Cells (changes_of changes.cells.items) is.cells (changes_of c.deref-3.result.now) (ap given c.deref-3.ensures.value) free c.in_ok-cells.cells c.in_ok-cells.ensures.rebuilt)
    (became p removed puts set tops (used c.rebuild-4.new.shelf) h Backs (changes_of changes.backs.items) is.backs (changes_of c.deref-4.result.now) (ap given c.deref-4.ensures.value) free c.in_ok-backs.backs c.in_ok-backs.ensures.rebuilt)
    c.in_ok-all_of.field-0 c.in_ok-all_of.ensures.tops c.in_ok-all_of.ensures.added c.in_ok-all_of.ensures.gone
