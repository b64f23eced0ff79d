-- What a snapshot becomes by an update, in terms of the changes that made it.
use Rattle.std.proofs.Common.{◌≡◌, List, Result, Ok, Err, refl}
use Rattle.std.specs.Prelude.{OnOk}
use Rattle.opl_codec.specs.declared.change.Change.{Change}
use Rattle.osm_keys.specs.Publications.{IsPublicationOf, Publication}
use Rattle.osm_index.specs.Applying.{AreApplicable, IsApplied, edition_after}
use Rattle.osm_index.specs.Snapshots.{HoldsPublication}
use Rattle.osm_index.specs.declared.snapshot.Snapshot.{Snapshot}
use Rattle.osm_index.specs.declared.update.Update.{Update}
use Rattle.osm_index.specs.internal.Updates.{IsUpdate, IsUpdateBy}

-- an update that changes make is one
pub update_made : (p : Publication) (all : List Change) (update : Update) → IsUpdateBy p all update → (q : Publication) × IsUpdate p q update
update_made p all update (q, applied, edition, is_update, applicable) = (q, is_update)

-- it was taken over
pub taken_over : {A F : Type 0} (p : Publication) (all : List Change) (update : Update) (new : Snapshot) (result : Result A F) → IsUpdateBy p all update
    → ((q : Publication) → IsUpdate p q update → OnOk result (HoldsPublication new q))
    → OnOk result ((q : Publication) × HoldsPublication new q × IsApplied p.objects all q.objects × (q.edition ≡ edition_after p.edition))
taken_over p all update new (Ok done) (q, applied, edition, is_update, applicable) held = (q, held q is_update, applied, edition)
taken_over p all update new (Err fault) made held = tt

pub was_applicable : (p : Publication) (all : List Change) (update : Update) → IsUpdateBy p all update → AreApplicable p.objects p.edition all
was_applicable p all update (q, applied, edition, is_update, applicable) = applicable

-- what the changes make, and a fact of it
pub made_with : (Fact : Publication → Type 0) (p : Publication) (all : List Change) (update : Update) → IsUpdateBy p all update → ((q : Publication) → IsUpdate p q update → Fact q)
    → AreApplicable p.objects p.edition all × ((q : Publication) × IsApplied p.objects all q.objects × IsPublicationOf q.objects (edition_after p.edition) q × Fact q)
made_with Fact p all update (q, applied, edition, is_update, applicable) fact =
    (applicable, (q, applied, record { published = is_update.is.published; same_objects = refl; same_edition = edition }, fact q is_update))
