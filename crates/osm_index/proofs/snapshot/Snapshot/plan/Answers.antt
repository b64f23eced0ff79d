use Rattle.std.proofs.Math.Logic.{∥∥₁_map}
use Rattle.std.proofs.Common.{subst}
use Rattle.tree_node.specs.Recorders.{RecorderHolds}
use Rattle.osm_index.specs.declared.update_fault.UpdateFault.{UpdateFault}
use Rattle.osm_index.specs.internal.Putting.{IsTreeNode}
use Rattle.osm_index.specs.internal.Updates.{RefusedBy, RefusesUpdate}
use Rattle.osm_index.proofs.SnapshotLemmas.{all_held, held_under}
use Rattle.osm_index.proofs.ToldLemmas.{changes_alone}
use Rattle.osm_index.proofs.snapshot.Snapshot.plan.Goals as goal

pub refusal-requires : goal.refusal-requires
refusal-requires c =
    let before = c.shelf-shelf.result in
    let after = c.new.new.shelf in
    let same = c.shelf-shelf.ensures.holds in
    let stays = c.new.ensures.stays in
    ∥∥₁_map c.args.self.now.own (λ (p, held).
    changes_alone (IsTreeNode p) (RecorderHolds after) (RefusesUpdate p c.args.changes.now) (all_held held before after same stays) c.in-Err.fault
    (c.in-Err.ensures.told p (held_under held before after same stays c.args.manifest.now c.requires.edition c.requires.tops)))

pub returns-in-Ok-clause-planned : goal.returns-in-Ok-clause-planned
returns-in-Ok-clause-planned c = λ p held. c.in-Ok.ensures.planned p (held_under held c.shelf-shelf.result c.new.new.shelf c.shelf-shelf.ensures.holds c.new.ensures.stays c.args.manifest.now c.requires.edition c.requires.tops)

pub returns-clause-refused : goal.returns-clause-refused
returns-clause-refused c = λ p held.
    let told = c.in-Err.ensures.told p (held_under held c.shelf-shelf.result c.new.new.shelf c.shelf-shelf.ensures.holds c.new.ensures.stays c.args.manifest.now c.requires.edition c.requires.tops) in
    subst (λ (fault : UpdateFault). RefusedBy (RefusesUpdate p c.args.changes.now) (IsTreeNode p) (RecorderHolds c.new.new.shelf) fault) c.refusal.ensures told
