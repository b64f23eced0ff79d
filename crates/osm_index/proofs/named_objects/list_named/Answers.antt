use Rattle.tree_build.specs.StrangeShelves.{IsRefusedFor}
use Rattle.tree_node.specs.declared.tree.Tree.TheVariants.{Objects}
use Rattle.osm_keys.specs.Publications.{tree_in}
use Rattle.osm_index.proofs.ChangeTreeLemmas.{refused_as}
use Rattle.osm_index.proofs.HeldTreeLemmas.{alone_before, stays_then}
use Rattle.osm_index.proofs.NamedLemmas.{found_more}
use Rattle.osm_index.proofs.named_objects.list_named.Goals as goal

pub loop-change-preserved : goal.loop-change-preserved
loop-change-preserved g c = record {
  stays = stays_then _ _ _ _ c.loop-change.invariant.stays c.push_named.ensures.stays;
  grows = λ x h. c.push_named.ensures.grows x (c.loop-change.invariant.grows x h);
  found = λ p holds.
      let was = alone_before p Objects c.args.top.now.0 (g.S.Shelf.used c.loop-change.shelf) (g.S.Shelf.used c.push_named.new.shelf) c.push_named.ensures.grows holds in
      let pushed = c.in_ok-push_named.ensures.pushed p holds in
      found_more p.objects c.args.changes.now c.loop-change.change-index c.change-item.result c.loop-change.objects.items c.push_named.new.objects.items c.loop-change-test.true c.change-item.is (c.loop-change.invariant.found p was)
      (rw c.name_of.ensures at pushed);
}

pub returns-in_err-push_named-clause-stays : goal.returns-in_err-push_named-clause-stays
returns-in_err-push_named-clause-stays g c = stays_then _ _ _ _ c.loop-change.invariant.stays c.push_named.ensures.stays

pub returns-in_err-push_named-clause-told : goal.returns-in_err-push_named-clause-told
returns-in_err-push_named-clause-told g c = λ p holds.
    refused_as (IsRefusedFor (tree_in p Objects) (g.S.Shelf.holds c.push_named.new.shelf)) c.from_residual.result c.in_err-push_named.field-0.0 c.from_residual.ensures.1 (c.in_err-push_named.ensures.told p holds)
