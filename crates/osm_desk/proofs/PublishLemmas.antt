-- What the clauses of a snapshot's changes say of a desk.
use Rattle.std.proofs.Common.{◌≡◌, ◌≢◌, ◌↔◌, ℕ, List, Result, Err, sym, subst}
use Rattle.opl_codec.specs.declared.change.Change.{Change}
use Rattle.osm_model.specs.Elements.{Element}
use Rattle.osm_model.specs.declared.reference.Ref.{Ref}
use Rattle.tree_node.specs.Outcomes.{Clash}
use Rattle.osm_index.specs.Applying.{AreApart, AreApplicable, IsApplied, IsFirstMissing, IsFirstTwice, IsLast, IsNodeOfEither, edition_after}
use Rattle.osm_keys.specs.Publications.{HasTooMany, IsPublicationOf, Publication}
use Rattle.osm_index.specs.Snapshots.{HoldsPublication}
use Rattle.osm_index.specs.declared.announced_fault.AnnouncedFault.{AnnouncedFault}
use Rattle.osm_index.specs.declared.announced_fault.AnnouncedFault.TheVariants.{Apply, OtherRoot}
use Rattle.osm_index.specs.declared.apply_fault.ApplyFault.{ApplyFault}
use Rattle.osm_index.specs.declared.apply_fault.ApplyFault.TheVariants as faults
use Rattle.osm_index.specs.declared.delta.Delta.{Delta}
use Rattle.osm_index.specs.declared.snapshot.Snapshot.{Snapshot}
use Rattle.osm_desk.specs.AnnouncedRoots.{RefusesAnnounced, root_digits}
use Rattle.osm_desk.specs.Made.{RefusesChanges}

module _ (p : Publication) (old : Snapshot) (held : HoldsPublication old p) (all : List Change) (result : Result Delta ApplyFault)
    (last : (result ≡ Err faults.LastSequence) ↔ IsLast old.edition)
    (twice : (r : Ref) → result ≡ Err (faults.ChangedTwice r) → (¬ IsLast old.edition) × IsFirstTwice all r)
    (missing : (r : Ref) → result ≡ Err (faults.NotThere r) → (¬ IsLast old.edition) × AreApart all × IsFirstMissing p.objects all r)
    (too_many : result ≡ Err faults.TooMany → AreApplicable p.objects p.edition all × ((set : List Element) × IsApplied p.objects all set × HasTooMany set))
    (clash : result ≡ Err faults.Clash → AreApplicable p.objects p.edition all
    × ((q : Publication) × IsApplied p.objects all q.objects × IsPublicationOf q.objects (edition_after p.edition) q × Clash (IsNodeOfEither p q) (IsNodeOfEither p q))) where
  was_last : IsLast p.edition → IsLast old.edition
  was_last is = subst IsLast held.is.same_edition is

  pub refuses : (fault : ApplyFault) → result ≡ Err fault → RefusesChanges p all fault
  refuses faults.LastSequence is = subst IsLast (sym held.is.same_edition) (last.0 is)
  refuses (faults.ChangedTwice r) is = let told = twice r is in ((λ h. told.0 (was_last h)), told.1)
  refuses (faults.NotThere r) is = let told = missing r is in ((λ h. told.0 (was_last h)), told.1, told.2)
  refuses faults.TooMany is = too_many is
  refuses faults.Clash is = let (fine, (q, applied, published, two)) = clash is in (fine, (q, record { applied = applied; published = published }, two))
  refuses faults.Memory is = λ h. let told : result ≡ Err faults.LastSequence = last.1 (was_last h) in cc

-- the same where a root is announced
module _ (p : Publication) (old : Snapshot) (held : HoldsPublication old p) (all : List Change) (announced : List ℕ) (result : Result Delta AnnouncedFault)
    (last : (result ≡ Err (Apply faults.LastSequence)) ↔ IsLast old.edition)
    (twice : (r : Ref) → result ≡ Err (Apply (faults.ChangedTwice r)) → (¬ IsLast old.edition) × IsFirstTwice all r)
    (missing : (r : Ref) → result ≡ Err (Apply (faults.NotThere r)) → (¬ IsLast old.edition) × AreApart all × IsFirstMissing p.objects all r)
    (too_many : result ≡ Err (Apply faults.TooMany) → AreApplicable p.objects p.edition all × ((set : List Element) × IsApplied p.objects all set × HasTooMany set))
    (other : result ≡ Err OtherRoot → AreApplicable p.objects p.edition all
    × ((q : Publication) × IsApplied p.objects all q.objects × IsPublicationOf q.objects (edition_after p.edition) q × (announced ≢ root_digits q)))
    (clash : result ≡ Err (Apply faults.Clash) → AreApplicable p.objects p.edition all
    × ((q : Publication) × IsApplied p.objects all q.objects × IsPublicationOf q.objects (edition_after p.edition) q
    × (announced ≡ root_digits q) × Clash (IsNodeOfEither p q) (IsNodeOfEither p q))) where
  was_at_last : IsLast p.edition → IsLast old.edition
  was_at_last is = subst IsLast held.is.same_edition is

  pub refuses_announced : (fault : AnnouncedFault) → result ≡ Err fault → RefusesAnnounced p all announced fault
  refuses_announced (Apply faults.LastSequence) is = subst IsLast (sym held.is.same_edition) (last.0 is)
  refuses_announced (Apply (faults.ChangedTwice r)) is = let told = twice r is in ((λ h. told.0 (was_at_last h)), told.1)
  refuses_announced (Apply (faults.NotThere r)) is = let told = missing r is in ((λ h. told.0 (was_at_last h)), told.1, told.2)
  refuses_announced (Apply faults.TooMany) is = too_many is
  refuses_announced (Apply faults.Clash) is =
      let (fine, (q, applied, published, same, two)) = clash is in (fine, (q, record { applied = applied; published = published }, same, two))
  refuses_announced (Apply faults.Memory) is = λ h. let told : result ≡ Err (Apply faults.LastSequence) = last.1 (was_at_last h) in cc
  refuses_announced OtherRoot is = let (fine, (q, applied, published, differs)) = other is in (fine, (q, record { applied = applied; published = published }, differs))
