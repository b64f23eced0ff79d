use Rattle.std.proofs.Common.{◌∙◌, ◌≡◌, ℕ, List, arith, inl, inr, length, subst, sym}
use Rattle.opl_codec.specs.declared.change.Change.{Change}
use Rattle.node_pack.specs.declared.place.Place.{Place}
use Rattle.pack_update.specs.Faults.{IsAddReason}
use Rattle.pack_update.specs.Files.{AreFilesOf}
use Rattle.osm_pack_changes.specs.Faults.{fault_of_added}
use Rattle.osm_pack_changes.specs.internal.Reading.{RefusesRead}
use Rattle.osm_pack_changes.proofs.AddLemmas.{beside, not_both, other_root}
use Rattle.osm_pack_changes.proofs.FaultLemmas.{added_refused, refused_as}
use Rattle.osm_pack_changes.proofs.add_command.add_read.Goals as goal

pub returns-in_err-added-clause-refused : goal.returns-in_err-added-clause-refused
returns-in_err-added-clause-refused g c = λ p is.
    let read = c.args.read.now in
    let number = length c.args.head.now.files.items in
    let fault = c.in_err-added.field-0.0 in
    let is_number : c.len-number.result ≡ number = omega (arith, c.len-number.ensures, c.args.head.now.files.ok.0) in
    elim (c.in_err-added.ensures.refused p is) [
      | inl why ↦ inl (refused_as (RefusesRead p read number c.args.name.now) c.from_residual.result (fault_of_added fault) c.from_residual.ensures.1 (added_refused p read number c.args.name.now fault
          (subst (λ (n : ℕ). IsAddReason p read.changes.items n fault) is_number (subst (λ (all : List Change). IsAddReason p all c.len-number.result fault) c.deref.ensures.value why))))
      | inr clash ↦ inr clash
    ]

pub returns-then-not-is_as_announced-clause-refused : goal.returns-then-not-is_as_announced-clause-refused
returns-then-not-is_as_announced-clause-refused g c = λ p is.
    elim (c.in_ok-added.ensures.safe p is) [
      | inl made ↦ inl (other_root p c.args.read.now c.deref.result.now c.deref.ensures.value c.in_ok-added.added c.is_as_announced.result c.is_as_announced.ensures (λ so. not_both c.is_as_announced.result so c.if-not-is_as_announced.true) made)
      | inr clash ↦ inr clash
    ]

pub returns-clause-safe : goal.returns-clause-safe
returns-clause-safe g c = λ p is.
    elim (c.in_ok-added.ensures.safe p is) [
      | inl made ↦ inl (made.0, beside p c.args.read.now c.deref.result.now c.deref.ensures.value c.in_ok-added.added c.is_as_announced.result c.is_as_announced.ensures c.if-not-is_as_announced.false made.0 made.1 made.2, made.2)
      | inr clash ↦ inr clash
    ]

pub returns-clause-whole : goal.returns-clause-whole
returns-clause-whole g c = λ p contents is reads had count.
    let is_number : c.len-number.result ≡ length c.args.head.now.files.items = omega (arith, c.len-number.ensures, c.args.head.now.files.ok.0) in
    elim (c.in_ok-added.ensures.whole p contents is reads (subst (λ (place : Place). AreFilesOf contents p place) (sym c.manifest_place.ensures) had) (count ∙ sym is_number)) [
      | inl made ↦ inl (made.0, beside p c.args.read.now c.deref.result.now c.deref.ensures.value c.in_ok-added.added c.is_as_announced.result c.is_as_announced.ensures c.if-not-is_as_announced.false made.0 made.1 made.2, made.2, made.3)
      | inr clash ↦ inr clash
    ]
