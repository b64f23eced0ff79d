use Rattle.std.proofs.Common.{refl, ap, ◌∙◌}
use Rattle.hex.specs.Hex.{encode_lower}
use Rattle.osm_index.specs.Snapshots.{HoldsPublication}
use Rattle.osm_desk.proofs.PublishLemmas.{refuses_announced}
use Rattle.osm_desk.proofs.StepLemmas.{refused_by}
use Rattle.osm_desk.proofs.TableLemmas.{held_inside}
use Rattle.osm_desk.proofs.desk.Desk+Snapshot.publish_announced.Goals as goal

pub returns-in_err-apply_announced-clause-refused :
    goal.returns-in_err-apply_announced-clause-refused
returns-in_err-apply_announced-clause-refused c = λ p holds.
    let held = held_inside HoldsPublication _ c.self.inside.mirror c.self.inside.gates p c.self.view_is holds in
    let told = c.apply_announced.ensures in
    refused_by _ c.from_residual.result c.in_err-apply_announced.field-0.0 c.from_residual.ensures.1
    (refuses_announced p c.self.inside.mirror held c.args.changes.now c.args.announced.now c.apply_announced.result told.last (told.twice p held) (told.missing p held)
    (told.too_many p held) (told.other_root p held) (told.clash p held) c.in_err-apply_announced.field-0.0 c.in_err-apply_announced.was)

pub returns-clause-made : goal.returns-clause-made
returns-clause-made c = λ p holds.
    let held = held_inside HoldsPublication _ c.self.inside.mirror c.self.inside.gates p c.self.view_is holds in
    let (q, now, applied, edition) = c.in_ok-apply_announced.ensures.applied p held in (
      q,
      (
        c.in_ok-apply_announced.ensures.applicable p held,
        record { applied = applied; published = record { published = now.is.published; same_objects = refl; same_edition = edition } },
        c.in_ok-apply_announced.ensures.no_clash p q held now,
      ),
      now,
      c.in_ok-apply_announced.ensures.announced ∙ ap encode_lower now.root,
    )
