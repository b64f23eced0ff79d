use Rattle.std.proofs.Common.{inl, inr, ◌-◌, ◌^◌, ℕ, List, [], ◌∷◌, ◌++◌, Err, length, refl, sym, ap, subst, ◌∙◌}
use Rattle.std.specs.Prelude.{unwrap_or}
use Rattle.osm_keys.specs.Publications.{root_of}
use Rattle.osm_index.specs.internal.Updates.{IsUpdateBy}
use Rattle.node_pack.specs.Additions.{bytes_of, earlier_place}
use Rattle.node_pack.specs.Further.{IsFurther, first_at, further, place_beside}
use Rattle.node_pack.specs.Packs.{no_place, place_from}
use Rattle.node_pack.specs.Placed.{HasNodesAt}
use Rattle.node_pack.specs.declared.header.Header.{Header}
use Rattle.pack_files.specs.Joined.{joined}
use Rattle.pack_update.specs.Faults.{IsAddReason}
use Rattle.pack_update.specs.declared.fault.AddFault.TheVariants.{Write}
use Rattle.pack_update.specs.internal.Updating.{IsEarlyReason, IsPlannedFor}
use Rattle.pack_update.proofs.AddLemmas.{added_is, are_new, next_is, unwritten}
use Rattle.pack_update.proofs.Apart.{alone_or, both_or, of_nodes}
use Rattle.pack_update.proofs.NodeLists.{all_nodes}
use Rattle.pack_update.proofs.PlaceLemmas.{earlier_true, further_size}
use Rattle.pack_update.proofs.ToldLemmas.{add_early, add_source, as_no_manifest, no_result, not_no_manifest, not_writers, refused_as, write_begun, write_untouched}
use Rattle.pack_update.proofs.UnderLemmas.{source_or}
use Rattle.pack_update.proofs.WholeLemmas.{agree, closed, fewer, fresh, next_files}
use Rattle.node_pack.specs.declared.write_fault.WriteFault.TheVariants.{NotWritten}
use Rattle.pack_update.proofs.add.add_changes.Goals as goal

-- ---- what is added

pub returns-clause-safe : goal.returns-clause-safe
returns-clause-safe g c = λ p is.
    let all = c.args.changes.now in
    let update = c.in_ok-update.update in
    let (seen, bytes_seen, plan) = c.in_ok-planned.ensures.under in
    let (others, other_bytes, rebuild) = c.in_ok-update.ensures.under in
    let (added, are, appended, told) = c.in_ok-header.ensures.written in
    elim (both_or p seen others (IsPlannedFor p c.args.root.now.0 all c.in_ok-planned.planned) (IsUpdateBy p all update) is.published bytes_seen other_bytes (λ alone. (plan p is alone).0) (λ alone free planned. (rebuild p all is alone free planned).0)) [
      | inl clash ↦ inr clash
      | inr made ↦ inl (
        made.0,
        next_is p all update made,
        added_is p all update made c.in_ok-header.header c.args.number (earlier_place c.args.number c.in_ok-known.known) added told,
      )
    ]

pub returns-clause-whole : goal.returns-clause-whole
returns-clause-whole g c = λ p contents is reads had count.
    let number = c.args.number in
    let all = c.args.changes.now in
    let place = c.args.manifest in
    let update = c.in_ok-update.update in
    let known = c.in_ok-known.known in
    let sight = earlier_place number known in
    let bytes = bytes_of c.as_slice-nodes.result.now in
    let header = c.in_ok-header.header in
    let (seen, bytes_seen, plan) = c.in_ok-planned.ensures.under in
    let (others, other_bytes, rebuild) = c.in_ok-update.ensures.under in
    let (added, are, appended, told) = c.in_ok-header.ensures.written in
    let over = c.in_ok-known.ensures.over (joined contents) had.places had.nodes reads had.are (ap had.places is.is ∙ had.rooted) had.near in
    elim (both_or p seen others (IsPlannedFor p c.args.root.now.0 all c.in_ok-planned.planned) (IsUpdateBy p all update) is.published bytes_seen other_bytes (λ alone. (plan p is alone).0) (λ alone free planned. (rebuild p all is alone free planned).0)) [
      | inl clash ↦ inr clash
      | inr made ↦ elim (alone_or p (all_nodes made.0) (of_nodes made.0 made.3.is.published)) [
        | inl clash ↦ inr clash
        | inr alone ↦
            let q = made.0 in
            let to_root = made.3.root in
            let new = are_new p all update made c.as_slice-nodes.result.now c.as_slice-nodes.ensures.value in
            let file = further number sight update.root.0 added in
            let is_seen : IsFurther file number sight (root_of q) added = subst (λ (r : List ℕ). IsFurther file number sight r added) to_root are.is_further in
            let is_all = c.further_law.ensures.over number sight had.places added file (root_of q) (earlier_true g.F.ReadAt.reads number known had.places c.args.root.now.0 had.nodes over)
            (fresh p q contents place alone had bytes new added are.same) is_seen in
            let is_next : IsFurther file (length contents) had.places (root_of q) added = subst (λ (n : ℕ). IsFurther file n had.places (root_of q) added) (sym count) is_all in
            let at = subst (λ (n : ℕ). HasNodesAt (joined (contents ++ file ∷ [])) (2 ^ 64 - 1) (place_beside n added had.places) (added ++ had.nodes)) count
            (c.further_law.ensures.nodes contents had.places had.nodes added file (root_of q) had.short had.are is_next) in
            let placed = c.further_law.ensures.root number had.places added file (root_of q) c.requires.number is_all in
            let short = c.further_law.ensures.short number had.places added file (root_of q) is_all in
            let published = made.3.is.published in
            let few = c.fewer_law.ensures (joined (contents ++ file ∷ [])) (2 ^ 64 - 1) (place_beside number added had.places)
            (fewer p q contents place alone had bytes new added are.same published number file is_all) (added ++ had.nodes)
            (agree p q contents place alone had bytes new added are.same published number file is_all)
            (closed p q contents place alone had bytes new added are.same published number file is_all) at in
            inl (
              q,
              next_is p all update made,
              added_is p all update made header number sight added told,
              record {
                file = file;
                appended = appended;
                size = further_size number sight update.root.0 added are.is_further.wide ∙ sym (ap (λ (h : Header). h.size) told);
                are = next_files p q contents place alone had bytes new added are.same published number file is_all few header.manifest
                    (ap (λ (h : Header). h.manifest) told ∙ ap (λ (r : List ℕ). unwrap_or (place_from (first_at number) added r) no_place) to_root) short placed;
              },
            )
      ]
    ]

-- ---- where nothing is

pub returns-in_err-planned-clause-safe : goal.returns-in_err-planned-clause-safe
returns-in_err-planned-clause-safe g c = λ p is. inl (no_result _ c.from_residual.result c.in_err-planned.field-0.0 c.from_residual.ensures.1)

pub returns-in_err-update-clause-safe : goal.returns-in_err-update-clause-safe
returns-in_err-update-clause-safe g c = λ p is. inl (no_result _ c.from_residual-in_err-update.result c.in_err-update.field-0.0 c.from_residual-in_err-update.ensures.1)

pub returns-in_err-known-clause-safe : goal.returns-in_err-known-clause-safe
returns-in_err-known-clause-safe g c = λ p is. inl (no_result _ c.from_residual-in_err-known.result c.in_err-known.field-0.0 c.from_residual-in_err-known.ensures.1)

pub returns-in_err-header-clause-safe : goal.returns-in_err-header-clause-safe
returns-in_err-header-clause-safe g c = λ p is. inl (no_result _ c.from_residual-in_err-header.result (Write c.in_err-header.field-0.0) c.from_residual-in_err-header.ensures.1)

pub returns-in_err-planned-clause-whole : goal.returns-in_err-planned-clause-whole
returns-in_err-planned-clause-whole g c = λ p contents is reads had count. inl (no_result _ c.from_residual.result c.in_err-planned.field-0.0 c.from_residual.ensures.1)

pub returns-in_err-update-clause-whole : goal.returns-in_err-update-clause-whole
returns-in_err-update-clause-whole g c = λ p contents is reads had count. inl (no_result _ c.from_residual-in_err-update.result c.in_err-update.field-0.0 c.from_residual-in_err-update.ensures.1)

pub returns-in_err-known-clause-whole : goal.returns-in_err-known-clause-whole
returns-in_err-known-clause-whole g c = λ p contents is reads had count. inl (no_result _ c.from_residual-in_err-known.result c.in_err-known.field-0.0 c.from_residual-in_err-known.ensures.1)

pub returns-in_err-header-clause-whole : goal.returns-in_err-header-clause-whole
returns-in_err-header-clause-whole g c = λ p contents is reads had count. inl (no_result _ c.from_residual-in_err-header.result (Write c.in_err-header.field-0.0) c.from_residual-in_err-header.ensures.1)

-- ---- refusals

pub returns-clause-refused : goal.returns-clause-refused
returns-clause-refused g c = λ p is. inl tt

pub returns-in_err-planned-clause-refused : goal.returns-in_err-planned-clause-refused
returns-in_err-planned-clause-refused g c = λ p is.
    let fault = c.in_err-planned.field-0.0 in
    let all = c.args.changes.now in
    let number = c.args.number in
    let (seen, bytes_seen, plan) = c.in_err-planned.ensures.under in
    elim (alone_or p seen (λ other has. inl (bytes_seen other has))) [
      | inl clash ↦ inr clash
      | inr alone ↦ inl (refused_as (IsAddReason p all number) c.from_residual.result fault c.from_residual.ensures.1 (add_early p all number fault (plan p is alone).1))
    ]

pub returns-in_err-update-clause-refused : goal.returns-in_err-update-clause-refused
returns-in_err-update-clause-refused g c = λ p is.
    let fault = c.in_err-update.field-0.0 in
    let all = c.args.changes.now in
    let number = c.args.number in
    let (seen, bytes_seen, plan) = c.in_ok-planned.ensures.under in
    let (others, other_bytes, rebuild) = c.in_err-update.ensures.under in
    elim (both_or p seen others (IsPlannedFor p c.args.root.now.0 all c.in_ok-planned.planned) (IsEarlyReason p all fault) is.published bytes_seen other_bytes (λ alone. (plan p is alone).0) (λ alone free planned. (rebuild p all is alone free planned).1)) [
      | inl clash ↦ inr clash
      | inr early ↦ inl (refused_as (IsAddReason p all number) c.from_residual-in_err-update.result fault c.from_residual-in_err-update.ensures.1 (add_early p all number fault early))
    ]

pub returns-in_err-known-clause-refused : goal.returns-in_err-known-clause-refused
returns-in_err-known-clause-refused g c = λ p is.
    let fault = c.in_err-known.field-0.0 in
    inl (refused_as (IsAddReason p c.args.changes.now c.args.number) c.from_residual-in_err-known.result fault c.from_residual-in_err-known.ensures.1 (add_source p c.args.changes.now c.args.number fault c.in_err-known.ensures.told))

pub returns-in_err-header-clause-refused : goal.returns-in_err-header-clause-refused
returns-in_err-header-clause-refused g c = λ p is.
    let fault = c.in_err-header.field-0.0 in
    let all = c.args.changes.now in
    let number = c.args.number in
    let update = c.in_ok-update.update in
    let (seen, bytes_seen, plan) = c.in_ok-planned.ensures.under in
    let (others, other_bytes, rebuild) = c.in_ok-update.ensures.under in
    elim (both_or p seen others (IsPlannedFor p c.args.root.now.0 all c.in_ok-planned.planned) (IsUpdateBy p all update) is.published bytes_seen other_bytes (λ alone. (plan p is alone).0) (λ alone free planned. (rebuild p all is alone free planned).0)) [
      | inl clash ↦ inr clash
      | inr made ↦ inl (refused_as (IsAddReason p all number) c.from_residual-in_err-header.result (Write fault) c.from_residual-in_err-header.ensures.1
          (unwritten p all update made number (earlier_place number c.in_ok-known.known) c.as_slice-nodes.result.now fault c.as_slice-nodes.ensures.value c.in_err-header.ensures.refused))
    ]

pub returns-in_err-planned-clause-no_manifest : goal.returns-in_err-planned-clause-no_manifest
returns-in_err-planned-clause-no_manifest g c =
    as_no_manifest c.args.root.now.0 c.from_residual.result c.in_err-planned.field-0.0 c.from_residual.ensures.1 c.in_err-planned.ensures.unread

pub returns-in_err-update-clause-no_manifest : goal.returns-in_err-update-clause-no_manifest
returns-in_err-update-clause-no_manifest g c =
    as_no_manifest c.args.root.now.0 c.from_residual-in_err-update.result c.in_err-update.field-0.0 c.from_residual-in_err-update.ensures.1 c.in_err-update.ensures.unread

pub returns-in_err-known-clause-no_manifest : goal.returns-in_err-known-clause-no_manifest
returns-in_err-known-clause-no_manifest g c =
    let fault = c.in_err-known.field-0.0 in
    as_no_manifest c.args.root.now.0 c.from_residual-in_err-known.result fault c.from_residual-in_err-known.ensures.1 (source_or c.args.root.now.0 fault c.in_err-known.ensures.told)

pub returns-in_err-header-clause-no_manifest : goal.returns-in_err-header-clause-no_manifest
returns-in_err-header-clause-no_manifest g c = λ e. absurd (not_no_manifest c.from_residual-in_err-header.result c.in_err-header.field-0.0 c.from_residual-in_err-header.ensures.1 e)

pub returns-in_err-planned-clause-begun : goal.returns-in_err-planned-clause-begun
returns-in_err-planned-clause-begun g c = λ e.
    absurd (not_writers c.args.root.now.0 c.from_residual.result c.in_err-planned.field-0.0 NotWritten c.from_residual.ensures.1 c.in_err-planned.ensures.unread e)

pub returns-in_err-update-clause-begun : goal.returns-in_err-update-clause-begun
returns-in_err-update-clause-begun g c = λ e.
    absurd (not_writers c.args.root.now.0 c.from_residual-in_err-update.result c.in_err-update.field-0.0 NotWritten c.from_residual-in_err-update.ensures.1 c.in_err-update.ensures.unread e)

pub returns-in_err-known-clause-begun : goal.returns-in_err-known-clause-begun
returns-in_err-known-clause-begun g c = λ e.
    let fault = c.in_err-known.field-0.0 in
    absurd (not_writers c.args.root.now.0 c.from_residual-in_err-known.result fault NotWritten c.from_residual-in_err-known.ensures.1 (source_or c.args.root.now.0 fault c.in_err-known.ensures.told) e)

pub returns-in_err-header-clause-begun : goal.returns-in_err-header-clause-begun
returns-in_err-header-clause-begun g c =
    let number = c.args.number in
    let seen = earlier_place number c.in_ok-known.known in
    let root = c.in_ok-update.update.root.0 in
    write_begun c.from_residual-in_err-header.result (Err c.in_err-header.field-0.0) c.in_err-header.field-0.0 c.from_residual-in_err-header.ensures.1 refl (λ e.
    let (added, are, front) = c.in_err-header.ensures.begun e in
    record { file = further number seen root added; root = root; places = seen; nodes = added; is_further = are.is_further; front = front })

pub returns-in_err-header-clause-untouched : goal.returns-in_err-header-clause-untouched
returns-in_err-header-clause-untouched g c =
    write_untouched c.from_residual-in_err-header.result c.in_err-header.field-0.0 c.from_residual-in_err-header.ensures.1 c.in_err-header.ensures.untouched
