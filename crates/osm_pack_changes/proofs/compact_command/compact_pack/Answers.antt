use Rattle.std.proofs.Common.{inl, inr, subst, sym}
use Rattle.node_pack.specs.declared.place.Place.{Place}
use Rattle.pack_update.specs.Files.{AreFilesOf}
use Rattle.osm_pack_changes.specs.CompactFaults.{fault_of_compact}
use Rattle.osm_pack_changes.specs.Compacting.{IsOutside}
use Rattle.osm_pack_changes.proofs.CompactLemmas.{outside}
use Rattle.osm_pack_changes.proofs.FaultLemmas.{refused_as}
use Rattle.osm_pack_changes.proofs.compact_command.compact_pack.Goals as goal

pub returns-in_err-compact_files-clause-whole : goal.returns-in_err-compact_files-clause-whole
returns-in_err-compact_files-clause-whole g c = λ is_true p contents is reads are.
    let fault = c.in_err-compact_files.field-0.0 in
    elim (c.in_err-compact_files.ensures.whole is_true p contents is reads (subst (λ (place : Place). AreFilesOf contents p place) (sym c.manifest_place-place.ensures) are)) [
      | inl why ↦ inl (refused_as (IsOutside p) c.from_residual-in_err-compact_files.result (fault_of_compact fault) c.from_residual-in_err-compact_files.ensures.1 (outside p fault why))
      | inr clash ↦ inr clash
    ]
