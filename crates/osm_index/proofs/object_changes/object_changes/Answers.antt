use Rattle.std.proofs.Common.{refl}
use Rattle.tree_node.specs.Trees.{IsNodeOf}
use Rattle.tree_node.specs.declared.tree.Tree.TheVariants.{Objects}
use Rattle.osm_keys.specs.Publications.{tree_in}
use Rattle.osm_index.specs.declared.update_fault.UpdateFault.TheVariants as updates
use Rattle.osm_index.specs.internal.Applying.{RefusesChanges}
use Rattle.osm_index.specs.internal.Updates.{RefusedBy, told_of}
use Rattle.osm_index.proofs.AppliedLemmas.{deletes_there, refused_deletes}
use Rattle.osm_index.proofs.ChangeTreeLemmas.{refused_as}
use Rattle.osm_index.proofs.ToldLemmas.{told_by}
use Rattle.osm_index.proofs.object_changes.object_changes.Goals as goal

pub returns-in_err-removed-clause-told : goal.returns-in_err-removed-clause-told
returns-in_err-removed-clause-told g c = λ p holds.
    let needed = IsNodeOf (tree_in p Objects) in
    let there = g.S.Shelf.holds c.named_objects.new.shelf in
    refused_as (RefusedBy (RefusesChanges p.objects c.args.changes.now) needed there) c.from_residual-in_err-removed.result (told_of c.in_err-removed.field-0.0) c.from_residual-in_err-removed.ensures.1
    (told_by needed there (RefusesChanges p.objects c.args.changes.now) tt c.in_err-removed.field-0.0 (c.in_err-removed.ensures.told p holds))

pub returns-clause-given : goal.returns-clause-given
returns-clause-given g c = λ p holds.
    let named = c.in_ok-removed.ensures.named p holds in
    record {
      apart = c.in_ok-refuse_repeats.ensures.apart refl;
      there = deletes_there p.objects c.args.changes.now c.in_ok-removed.removed named c.args.changes.now (c.in_ok-refuse_missing_deletes.ensures.there refl);
      removed = named;
      puts = c.in_ok-puts.ensures;
    }

pub returns-in_err-refuse_missing_deletes-clause-told : goal.returns-in_err-refuse_missing_deletes-clause-told
returns-in_err-refuse_missing_deletes-clause-told g c = λ p holds.
    let needed = IsNodeOf (tree_in p Objects) in
    let there = g.S.Shelf.holds c.named_objects.new.shelf in
    let fault = c.in_err-refuse_missing_deletes.field-0.0 in
    let all = c.args.changes.now in
    refused_as (RefusedBy (RefusesChanges p.objects all) needed there) c.from_residual-in_err-refuse_missing_deletes.result (updates.Apply fault) c.from_residual-in_err-refuse_missing_deletes.ensures.1
    (refused_deletes p.objects all c.in_ok-removed.removed (c.in_ok-removed.ensures.named p holds) (c.in_ok-refuse_repeats.ensures.apart refl) fault c.in_err-refuse_missing_deletes.ensures.refused)
