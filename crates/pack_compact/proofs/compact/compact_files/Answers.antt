use Rattle.std.proofs.Common.{◌≡◌, ◌∙◌, inl, inr, true, None, Option, Some, ap, refl, sym, subst}
use Rattle.std.specs.Option.{IsNone}
use Rattle.osm_keys.specs.Publications.{top_in}
use Rattle.osm_keys.proofs.shared.OneManifest.{tops_wide}
use Rattle.osm_keys.specs.declared.manifest.Manifest.{Manifest}
use Rattle.tree_node.specs.Digests.{digest}
use Rattle.tree_node.specs.Nodes.{AreBytes}
use Rattle.tree_node.proofs.shared.MapLemmas.{differ}
use Rattle.pack_compact.proofs.OutcomeLemmas.{err_if, err_isnt}
use Rattle.pack_compact.proofs.ReadLemmas.{held_still, no_failure, nothing}
use Rattle.pack_compact.proofs.UnderLemmas.{built_outside, built_reason, has_tops, held_by, manifest_or_twin, outside_of, reason_of, under}
use Rattle.pack_compact.specs.Compacting.{IsOutside, IsReason}
use Rattle.pack_compact.specs.declared.fault.CompactFault.TheVariants.{NoManifest}
use Rattle.pack_compact.specs.internal.Copying.{AreHeld, Holding, IsPlaceOf}
use Rattle.pack_compact.proofs.compact.compact_files.Goals as goal

pub returns-in_err-record-clause-whole : goal.returns-in_err-record-clause-whole
returns-in_err-record-clause-whole g c = λ holds p contents is reads are.
    let known : Option Holding = Some (held_by contents p c.args.manifest are) in
    let held : AreHeld (g.F.ReadAt.reads c.args.files.now) known = (reads, are.are) in
    let at : IsPlaceOf known c.args.root.now.0 c.args.manifest = ap are.places is.is ∙ are.rooted in
    inl (err_if c.from_residual.result _ (IsOutside p) c.from_residual.ensures.1 (outside_of p (held_by contents p c.args.manifest are) c.in_err-record.field-0.0 (c.in_err-record.ensures.ends known held at)))

pub returns-in_err-record-clause-refused : goal.returns-in_err-record-clause-refused
returns-in_err-record-clause-refused g c = λ holds p is.
    let known : Option Holding = None in
    let held : AreHeld (g.F.ReadAt.reads c.args.files.now) known = tt in
    let at : IsPlaceOf known c.args.root.now.0 c.args.manifest = tt in
    inl (err_if c.from_residual.result _ (IsReason p) c.from_residual.ensures.1 (reason_of p c.in_err-record.field-0.0 (c.in_err-record.ensures.ends known held at)))

pub returns-in_err-record-clause-no_manifest : goal.returns-in_err-record-clause-no_manifest
returns-in_err-record-clause-no_manifest g c = λ told.
    absurd (err_isnt c.from_residual.result _ NoManifest c.from_residual.ensures.1 (no_failure None c.in_err-record.field-0.0 (c.in_err-record.ensures.ends None tt tt)) told)

pub returns-in_default-clause-whole : goal.returns-in_default-clause-whole
returns-in_default-clause-whole g c = λ holds p contents is reads are.
    elim (manifest_or_twin p c.args.root.now.0 c.node.result.now is (ap digest c.node.ensures.value ∙ c.in_ok-record.ensures.has_digest) (subst AreBytes (sym c.node.ensures.value) c.in_ok-record.ensures.bytes)) [
      | inl same ↦
          let none : IsNone c.read_manifest.result = subst (λ (o : Option Manifest). IsNone o) (sym (nothing c.read_manifest.result c.in_default.not-Some)) refl in
          inl (c.read_manifest.ensures.none none p.edition (top_in p) (tops_wide p) same)
      | inr twin ↦ inr twin
    ]

pub returns-in_default-clause-refused : goal.returns-in_default-clause-refused
returns-in_default-clause-refused g c = λ holds p is.
    elim (manifest_or_twin p c.args.root.now.0 c.node.result.now is (ap digest c.node.ensures.value ∙ c.in_ok-record.ensures.has_digest) (subst AreBytes (sym c.node.ensures.value) c.in_ok-record.ensures.bytes)) [
      | inl same ↦
          let none : IsNone c.read_manifest.result = subst (λ (o : Option Manifest). IsNone o) (sym (nothing c.read_manifest.result c.in_default.not-Some)) refl in
          inl (c.read_manifest.ensures.none none p.edition (top_in p) (tops_wide p) same)
      | inr twin ↦ inr twin
    ]

pub returns-in_default-clause-no_manifest : goal.returns-in_default-clause-no_manifest
returns-in_default-clause-no_manifest g c = λ told. record {
  bytes = c.node.result.now;
  are = subst AreBytes (sym c.node.ensures.value) c.in_ok-record.ensures.bytes;
  has_root = ap digest c.node.ensures.value ∙ c.in_ok-record.ensures.has_digest;
  none =
      let none : IsNone c.read_manifest.result = subst (λ (o : Option Manifest). IsNone o) (sym (nothing c.read_manifest.result c.in_default.not-Some)) refl in
      c.read_manifest.ensures.none none;
}

pub returns-in_err-trees-clause-whole : goal.returns-in_err-trees-clause-whole
returns-in_err-trees-clause-whole g c = λ holds p contents is reads are.
    let known : Option Holding = Some (held_by contents p c.args.manifest are) in
    let held : AreHeld (g.F.ReadAt.reads c.args.files.now) known = (reads, are.are) in
    let at : IsPlaceOf known c.args.root.now.0 c.args.manifest = ap are.places is.is ∙ are.rooted in
    elim (manifest_or_twin p c.args.root.now.0 c.node.result.now is (ap digest c.node.ensures.value ∙ c.in_ok-record.ensures.has_digest) (subst AreBytes (sym c.node.ensures.value) c.in_ok-record.ensures.bytes)) [
      | inl same ↦
          let u = under p c.args.root.now.0 c.node.result.now c.in-Some.manifest is c.sequence_fits.ensures c.in-Some.ensures.width c.in-Some.ensures.some same in
          let tops = has_tops p known c.args.root.now.0 c.in_ok-record.record c.node.result.now c.node.ensures.given same (c.in_ok-record.ensures.ends known held at) in
          let still = held_still (g.F.ReadAt.reads c.args.files.now) (g.F.ReadAt.reads c.read_node.new.files) known c.read_node.ensures.stays held in
          elim (c.in_err-trees.ensures.copied p known is.published u.edition u.tops tops still) [
            | inl why ↦ inl (err_if c.from_residual-in_err-trees.result _ (IsOutside p) c.from_residual-in_err-trees.ensures.1 (outside_of p (held_by contents p c.args.manifest are) c.in_err-trees.field-0.0 why))
            | inr twin ↦ inr twin
          ]
      | inr twin ↦ inr twin
    ]

pub returns-in_err-trees-clause-refused : goal.returns-in_err-trees-clause-refused
returns-in_err-trees-clause-refused g c = λ holds p is.
    let known : Option Holding = None in
    let held : AreHeld (g.F.ReadAt.reads c.args.files.now) known = tt in
    let at : IsPlaceOf known c.args.root.now.0 c.args.manifest = tt in
    elim (manifest_or_twin p c.args.root.now.0 c.node.result.now is (ap digest c.node.ensures.value ∙ c.in_ok-record.ensures.has_digest) (subst AreBytes (sym c.node.ensures.value) c.in_ok-record.ensures.bytes)) [
      | inl same ↦
          let u = under p c.args.root.now.0 c.node.result.now c.in-Some.manifest is c.sequence_fits.ensures c.in-Some.ensures.width c.in-Some.ensures.some same in
          let tops = has_tops p known c.args.root.now.0 c.in_ok-record.record c.node.result.now c.node.ensures.given same (c.in_ok-record.ensures.ends known held at) in
          let still = held_still (g.F.ReadAt.reads c.args.files.now) (g.F.ReadAt.reads c.read_node.new.files) known c.read_node.ensures.stays held in
          elim (c.in_err-trees.ensures.copied p known is.published u.edition u.tops tops still) [
            | inl why ↦ inl (err_if c.from_residual-in_err-trees.result _ (IsReason p) c.from_residual-in_err-trees.ensures.1 (reason_of p c.in_err-trees.field-0.0 why))
            | inr twin ↦ inr twin
          ]
      | inr twin ↦ inr twin
    ]

pub returns-in_err-trees-clause-no_manifest : goal.returns-in_err-trees-clause-no_manifest
returns-in_err-trees-clause-no_manifest g c = λ told.
    absurd (err_isnt c.from_residual-in_err-trees.result _ NoManifest c.from_residual-in_err-trees.ensures.1 c.in_err-trees.ensures.told told)

pub returns-then-not-are_same-clause-whole : goal.returns-then-not-are_same-clause-whole
returns-then-not-are_same-clause-whole g c = λ holds p contents is reads are.
    let known : Option Holding = Some (held_by contents p c.args.manifest are) in
    let held : AreHeld (g.F.ReadAt.reads c.args.files.now) known = (reads, are.are) in
    let at : IsPlaceOf known c.args.root.now.0 c.args.manifest = ap are.places is.is ∙ are.rooted in
    elim (manifest_or_twin p c.args.root.now.0 c.node.result.now is (ap digest c.node.ensures.value ∙ c.in_ok-record.ensures.has_digest) (subst AreBytes (sym c.node.ensures.value) c.in_ok-record.ensures.bytes)) [
      | inl same ↦
          let u = under p c.args.root.now.0 c.node.result.now c.in-Some.manifest is c.sequence_fits.ensures c.in-Some.ensures.width c.in-Some.ensures.some same in
          let tops = has_tops p known c.args.root.now.0 c.in_ok-record.record c.node.result.now c.node.ensures.given same (c.in_ok-record.ensures.ends known held at) in
          let still = held_still (g.F.ReadAt.reads c.args.files.now) (g.F.ReadAt.reads c.read_node.new.files) known c.read_node.ensures.stays held in
          elim (c.in_ok-trees.ensures.copied p known is.published u.edition u.tops tops still) [
            | inl trees ↦
                let are : c.are_same.result ≡ true = c.are_same.ensures (λ tree. trees.tops tree ∙ sym (u.tops tree)) in
                inl (differ c.are_same.result are c.if-not-are_same.true)
            | inr twin ↦ inr twin
          ]
      | inr twin ↦ inr twin
    ]

pub returns-then-not-are_same-clause-refused : goal.returns-then-not-are_same-clause-refused
returns-then-not-are_same-clause-refused g c = λ holds p is.
    let known : Option Holding = None in
    let held : AreHeld (g.F.ReadAt.reads c.args.files.now) known = tt in
    let at : IsPlaceOf known c.args.root.now.0 c.args.manifest = tt in
    elim (manifest_or_twin p c.args.root.now.0 c.node.result.now is (ap digest c.node.ensures.value ∙ c.in_ok-record.ensures.has_digest) (subst AreBytes (sym c.node.ensures.value) c.in_ok-record.ensures.bytes)) [
      | inl same ↦
          let u = under p c.args.root.now.0 c.node.result.now c.in-Some.manifest is c.sequence_fits.ensures c.in-Some.ensures.width c.in-Some.ensures.some same in
          let tops = has_tops p known c.args.root.now.0 c.in_ok-record.record c.node.result.now c.node.ensures.given same (c.in_ok-record.ensures.ends known held at) in
          let still = held_still (g.F.ReadAt.reads c.args.files.now) (g.F.ReadAt.reads c.read_node.new.files) known c.read_node.ensures.stays held in
          elim (c.in_ok-trees.ensures.copied p known is.published u.edition u.tops tops still) [
            | inl trees ↦
                let are : c.are_same.result ≡ true = c.are_same.ensures (λ tree. trees.tops tree ∙ sym (u.tops tree)) in
                inl (differ c.are_same.result are c.if-not-are_same.true)
            | inr twin ↦ inr twin
          ]
      | inr twin ↦ inr twin
    ]

pub returns-in_err-write_trees-clause-whole : goal.returns-in_err-write_trees-clause-whole
returns-in_err-write_trees-clause-whole g c = λ holds p contents is reads are.
    let known : Option Holding = Some (held_by contents p c.args.manifest are) in
    let held : AreHeld (g.F.ReadAt.reads c.args.files.now) known = (reads, are.are) in
    let at : IsPlaceOf known c.args.root.now.0 c.args.manifest = ap are.places is.is ∙ are.rooted in
    elim (manifest_or_twin p c.args.root.now.0 c.node.result.now is (ap digest c.node.ensures.value ∙ c.in_ok-record.ensures.has_digest) (subst AreBytes (sym c.node.ensures.value) c.in_ok-record.ensures.bytes)) [
      | inl same ↦
          let u = under p c.args.root.now.0 c.node.result.now c.in-Some.manifest is c.sequence_fits.ensures c.in-Some.ensures.width c.in-Some.ensures.some same in
          let tops = has_tops p known c.args.root.now.0 c.in_ok-record.record c.node.result.now c.node.ensures.given same (c.in_ok-record.ensures.ends known held at) in
          let still = held_still (g.F.ReadAt.reads c.args.files.now) (g.F.ReadAt.reads c.read_node.new.files) known c.read_node.ensures.stays held in
          elim (c.in_ok-trees.ensures.copied p known is.published u.edition u.tops tops still) [
            | inl trees ↦
                inl (err_if c.from_residual-in_err-write_trees.result _ (IsOutside p) c.from_residual-in_err-write_trees.ensures.1
                (built_outside p c.in_err-write_trees.field-0.0 (c.in_err-write_trees.ensures.refused holds p is.published (sym u.edition) trees)))
            | inr twin ↦ inr twin
          ]
      | inr twin ↦ inr twin
    ]

pub returns-in_err-write_trees-clause-refused : goal.returns-in_err-write_trees-clause-refused
returns-in_err-write_trees-clause-refused g c = λ holds p is.
    let known : Option Holding = None in
    let held : AreHeld (g.F.ReadAt.reads c.args.files.now) known = tt in
    let at : IsPlaceOf known c.args.root.now.0 c.args.manifest = tt in
    elim (manifest_or_twin p c.args.root.now.0 c.node.result.now is (ap digest c.node.ensures.value ∙ c.in_ok-record.ensures.has_digest) (subst AreBytes (sym c.node.ensures.value) c.in_ok-record.ensures.bytes)) [
      | inl same ↦
          let u = under p c.args.root.now.0 c.node.result.now c.in-Some.manifest is c.sequence_fits.ensures c.in-Some.ensures.width c.in-Some.ensures.some same in
          let tops = has_tops p known c.args.root.now.0 c.in_ok-record.record c.node.result.now c.node.ensures.given same (c.in_ok-record.ensures.ends known held at) in
          let still = held_still (g.F.ReadAt.reads c.args.files.now) (g.F.ReadAt.reads c.read_node.new.files) known c.read_node.ensures.stays held in
          elim (c.in_ok-trees.ensures.copied p known is.published u.edition u.tops tops still) [
            | inl trees ↦
                inl (err_if c.from_residual-in_err-write_trees.result _ (IsReason p) c.from_residual-in_err-write_trees.ensures.1
                (built_reason p c.in_err-write_trees.field-0.0 (c.in_err-write_trees.ensures.refused holds p is.published (sym u.edition) trees)))
            | inr twin ↦ inr twin
          ]
      | inr twin ↦ inr twin
    ]

pub returns-clause-safe : goal.returns-clause-safe
returns-clause-safe g c = λ holds p is.
    let known : Option Holding = None in
    let held : AreHeld (g.F.ReadAt.reads c.args.files.now) known = tt in
    let at : IsPlaceOf known c.args.root.now.0 c.args.manifest = tt in
    elim (manifest_or_twin p c.args.root.now.0 c.node.result.now is (ap digest c.node.ensures.value ∙ c.in_ok-record.ensures.has_digest) (subst AreBytes (sym c.node.ensures.value) c.in_ok-record.ensures.bytes)) [
      | inl same ↦
          let u = under p c.args.root.now.0 c.node.result.now c.in-Some.manifest is c.sequence_fits.ensures c.in-Some.ensures.width c.in-Some.ensures.some same in
          let tops = has_tops p known c.args.root.now.0 c.in_ok-record.record c.node.result.now c.node.ensures.given same (c.in_ok-record.ensures.ends known held at) in
          let still = held_still (g.F.ReadAt.reads c.args.files.now) (g.F.ReadAt.reads c.read_node.new.files) known c.read_node.ensures.stays held in
          elim (c.in_ok-trees.ensures.copied p known is.published u.edition u.tops tops still) [
            | inl trees ↦ inl (c.in_ok-write_trees.ensures.built holds p is.published (sym u.edition) trees).2
            | inr twin ↦ inr twin
          ]
      | inr twin ↦ inr twin
    ]
