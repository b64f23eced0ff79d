use Rattle.std.proofs.Common.{refl}
use Rattle.std.proofs.Math.Logic.{∥∥₁_map}
use Rattle.tree_node.specs.Recorders.{RecorderHolds}
use Rattle.osm_index.specs.internal.Putting.{IsTreeNode}
use Rattle.osm_index.proofs.SnapshotLemmas.{all_held, held_under}
use Rattle.osm_index.proofs.ToldLemmas.{memory_alone}
use Rattle.osm_index.proofs.snapshot.Snapshot.prepare_update.Goals as goal

pub memory_alone-requires : goal.memory_alone-requires
memory_alone-requires c =
    let before = c.shelf-shelf.result in
    let after = c.carry_out.new.shelf in
    let same = c.shelf-shelf.ensures.holds in
    let stays = c.carry_out.ensures.stays in
    ∥∥₁_map c.args.self.now.own (λ (p, held).
    memory_alone (IsTreeNode p) (RecorderHolds after) (all_held held before after same stays) c.in-Err.fault
    (c.in-Err.ensures.told p c.args.changes.now (held_under held before after same stays (record { edition = c.args.self.now.edition; tops = c.args.self.now.manifest.tops }) refl refl) (c.in_ok-plan.ensures.planned p held)))

pub returns-in-Ok-clause-made : goal.returns-in-Ok-clause-made
returns-in-Ok-clause-made c = λ p held.
    let before = c.shelf-shelf.result in
    let after = c.carry_out.new.shelf in
    let same = c.shelf-shelf.ensures.holds in
    let stays = c.carry_out.ensures.stays in
    c.in-Ok.ensures.made p c.args.changes.now (held_under held before after same stays (record { edition = c.args.self.now.edition; tops = c.args.self.now.manifest.tops }) refl refl) held.no_clash held.root (c.in_ok-plan.ensures.planned p held)
