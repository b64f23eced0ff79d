use Rattle.std.proofs.Common.{refl}
use Rattle.osm_index.specs.Snapshots.{HoldsPublication}
use Rattle.osm_desk.proofs.PublishLemmas.{refuses}
use Rattle.osm_desk.proofs.StepLemmas.{refused_by}
use Rattle.osm_desk.proofs.TableLemmas.{held_inside}
use Rattle.osm_desk.proofs.desk.Desk+Snapshot.publish.Goals as goal

pub returns-in_err-apply-clause-refused : goal.returns-in_err-apply-clause-refused
returns-in_err-apply-clause-refused c = λ p holds.
    let held = held_inside HoldsPublication _ c.self.inside.mirror c.self.inside.gates p c.self.view_is holds in
    refused_by _ c.from_residual.result c.in_err-apply.field-0.0 c.from_residual.ensures.1
    (refuses p c.self.inside.mirror held c.args.changes.now c.apply.result c.apply.ensures.last (c.apply.ensures.twice p held) (c.apply.ensures.missing p held)
    (c.apply.ensures.too_many p held) (c.apply.ensures.clash p held) c.in_err-apply.field-0.0 c.in_err-apply.was)

pub returns-clause-made : goal.returns-clause-made
returns-clause-made c = λ p holds.
    let held = held_inside HoldsPublication _ c.self.inside.mirror c.self.inside.gates p c.self.view_is holds in
    let (q, now, applied, edition) = c.in_ok-apply.ensures.applied p held in (
      q,
      (
        c.in_ok-apply.ensures.applicable p held,
        record { applied = applied; published = record { published = now.is.published; same_objects = refl; same_edition = edition } },
        c.in_ok-apply.ensures.no_clash p q held now,
      ),
      now,
    )
