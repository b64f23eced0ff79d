use Rattle.std.proofs.Common.{◌∙◌}
use Rattle.std.proofs.Math.Logic.{∥∥₁_map}
use Rattle.tree_node.specs.Recorders.{RecorderHolds}
use Rattle.tree_node.specs.Trees.{IsNodeOf}
use Rattle.tree_node.specs.declared.tree.Tree.TheVariants.{Objects}
use Rattle.osm_keys.specs.Publications.{tree_in}
use Rattle.osm_index.proofs.SnapshotLemmas.{all_held, held_tree, objects_counted}
use Rattle.osm_index.proofs.ToldLemmas.{memory_alone}
use Rattle.osm_index.proofs.snapshot.Snapshot.object_count.Goals as goal

pub memory_alone-requires : goal.memory_alone-requires
memory_alone-requires c =
    let before = c.shelf-shelf.result in
    let after = c.entry_count.new.shelf in
    let same = c.shelf-shelf.ensures.holds in
    let stays = c.entry_count.ensures.stays in
    ∥∥₁_map c.args.self.now.own (λ (p, held).
    memory_alone (IsNodeOf (tree_in p Objects)) (RecorderHolds after) (λ x is. all_held held before after same stays x (Objects, is)) c.in-Err.fault (c.in-Err.ensures.told p (held_tree held before after same stays Objects)))

pub returns-in-Ok : goal.returns-in-Ok
returns-in-Ok c = λ p held. c.in-Ok.ensures.number p (held_tree held c.shelf-shelf.result c.entry_count.new.shelf c.shelf-shelf.ensures.holds c.entry_count.ensures.stays Objects) ∙ objects_counted p held.is.published
