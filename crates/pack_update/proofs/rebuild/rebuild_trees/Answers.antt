use Rattle.std.proofs.Common.{[], subst, sym}
use Rattle.osm_index.specs.internal.Updates.{IsUpdateBy}
use Rattle.osm_keys.proofs.shared.Members.{none}
use Rattle.pack_update.specs.Faults.{fault_of_open}
use Rattle.pack_update.specs.internal.Updating.{IsEarlyReason, IsUnreadOr}
use Rattle.pack_update.proofs.Apart.{brought_bytes, brought_in, brought_listed}
use Rattle.pack_update.proofs.ToldLemmas.{refused_as, refused_both}
use Rattle.pack_update.proofs.UnderLemmas.{early_rebuild, early_source, early_unread, rebuild_or, seen_bytes, seen_unread, source_open, source_or, under, unread_or}
use Rattle.pack_update.proofs.rebuild.rebuild_trees.Goals as goal

pub returns-in_err-source-clause-under : goal.returns-in_err-source-clause-under
returns-in_err-source-clause-under g c =
    let fault = c.in_err-source.field-0.0 in
    ([], (λ other has. absurd (none other has)), λ p all is alone free planned. refused_both (IsUpdateBy p all) (IsEarlyReason p all) c.from_residual.result (fault_of_open fault) c.from_residual.ensures.1 (early_source p all (fault_of_open fault) (source_open fault)))

pub returns-in_err-source-clause-unread : goal.returns-in_err-source-clause-unread
returns-in_err-source-clause-unread g c =
    let fault = c.in_err-source.field-0.0 in
    refused_as (IsUnreadOr c.args.root.now.0) c.from_residual.result (fault_of_open fault) c.from_residual.ensures.1 (source_or c.args.root.now.0 (fault_of_open fault) (source_open fault))

pub returns-in_err-manifest-clause-under : goal.returns-in_err-manifest-clause-under
returns-in_err-manifest-clause-under g c =
    let fault = c.in_err-manifest.field-0.0 in
    let root = c.args.root.now.0 in
    let unread = c.in_err-manifest.ensures.unread in
    (seen_unread root fault unread, seen_bytes root fault unread, λ p all is alone free planned. refused_both (IsUpdateBy p all) (IsEarlyReason p all) c.from_residual-in_err-manifest.result fault c.from_residual-in_err-manifest.ensures.1 (early_unread p root all is fault unread alone))

pub returns-in_err-manifest-clause-unread : goal.returns-in_err-manifest-clause-unread
returns-in_err-manifest-clause-unread g c =
    let fault = c.in_err-manifest.field-0.0 in
    refused_as (IsUnreadOr c.args.root.now.0) c.from_residual-in_err-manifest.result fault c.from_residual-in_err-manifest.ensures.1 (unread_or c.args.root.now.0 fault c.in_err-manifest.ensures.unread)

pub returns-in-Ok-clause-under : goal.returns-in-Ok-clause-under
returns-in-Ok-clause-under g c =
    let root = c.args.root.now.0 in
    let manifest = c.in_ok-manifest.manifest in
    let shelf = c.carry_out.new.shelf in
    let read = c.in_ok-manifest.ensures.read in (
      brought_in shelf,
      brought_bytes shelf,
      λ p all is alone free planned. (
        c.in-Ok.ensures.made p all (under p root manifest _ (brought_in shelf) is read.0 alone (brought_listed shelf _ (c.in-Ok.ensures.grows _ read.1)) (brought_listed shelf)) free is.is planned.1,
        tt,
      ),
    )

pub returns-clause-under : goal.returns-clause-under
returns-clause-under g c =
    let root = c.args.root.now.0 in
    let manifest = c.in_ok-manifest.manifest in
    let shelf = c.carry_out.new.shelf in
    let read = c.in_ok-manifest.ensures.read in (
      brought_in shelf,
      brought_bytes shelf,
      λ p all is alone free planned. (
        tt,
        subst (IsEarlyReason p all) (sym c.rebuild_fault.ensures) (early_rebuild p all _ _ c.in-Err.fault c.refused.result
            (c.in-Err.ensures.told p all (under p root manifest _ (brought_in shelf) is read.0 alone (brought_listed shelf _ (c.in-Err.ensures.grows _ read.1)) (brought_listed shelf)) planned.1)),
      ),
    )

pub returns-clause-unread : goal.returns-clause-unread
returns-clause-unread g c = subst (IsUnreadOr c.args.root.now.0) (sym c.rebuild_fault.ensures) (rebuild_or c.args.root.now.0 c.in-Err.fault c.refused.result)
