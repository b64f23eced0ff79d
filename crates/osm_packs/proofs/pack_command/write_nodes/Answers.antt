use Rattle.std.proofs.Common.{◌∙◌, List, ℕ, ap, subst, sym}
use mathlib.Core.HLevel.{⊥_prop}
use Rattle.std.proofs.Math.Logic.{∥∥₁_elim}
use Rattle.tree_node.specs.Recorders.{RecorderHolds}
use Rattle.node_pack.specs.Packs.{pack}
use Rattle.node_pack.specs.Reached.{ArePacked, AreTooLong, IsReason}
use Rattle.node_pack.specs.declared.write_fault.WriteFault.TheVariants as faults
use Rattle.pack_assembly.specs.Packing.{IsPackOf}
use Rattle.osm_packs.proofs.PackLemmas.{holds_nodes, never_malformed, never_missing, packs_all, reason_of, too_long}
use Rattle.osm_packs.proofs.pack_command.write_nodes.Goals as goal

pub returns-in-Ok-clause-packed : goal.returns-in-Ok-clause-packed
returns-in-Ok-clause-packed g c = λ p held.
    let shelf = RecorderHolds c.write_pack.new.shelf in
    let holds = holds_nodes c.args.snapshot.now p c.stock.result.now (RecorderHolds c.new-shelf.result) shelf held c.stock.ensures c.new-shelf.ensures.holds c.write_pack.ensures.stays in
    let root = ap (λ d. d.0) c.root.ensures ∙ held.root in
    let (nodes, packed, appends, len) = c.in-Ok.ensures.written in (
      pack c.root.result.now.0 nodes,
      subst (λ (r : List ℕ). IsPackOf p (pack r nodes)) (sym root) (packs_all p shelf holds nodes (subst (λ (r : List ℕ). ArePacked shelf r nodes) root packed)),
      appends,
    )

pub returns-in-Err-TooLong-clause-refused : goal.returns-in-Err-TooLong-clause-refused
returns-in-Err-TooLong-clause-refused g c = λ p held.
    let shelf = RecorderHolds c.write_pack.new.shelf in
    let holds = holds_nodes c.args.snapshot.now p c.stock.result.now (RecorderHolds c.new-shelf.result) shelf held c.stock.ensures c.new-shelf.ensures.holds c.write_pack.ensures.stays in
    let root = ap (λ d. d.0) c.root.ensures ∙ held.root in
    too_long p shelf holds (subst (λ (r : List ℕ). AreTooLong shelf r) root
    (reason_of shelf c.root.result.now.0 c.in-Err-TooLong.field-0 faults.TooLong c.in-Err-TooLong.field-0-is tt c.in-Err-TooLong.ensures.refused))

pub unreachable-requires : goal.unreachable-requires
unreachable-requires g c = ∥∥₁_elim c.args.snapshot.now.own ⊥_prop (λ (p, held).
    let shelf = RecorderHolds c.write_pack.new.shelf in
    let holds = holds_nodes c.args.snapshot.now p c.stock.result.now (RecorderHolds c.new-shelf.result) shelf held c.stock.ensures c.new-shelf.ensures.holds c.write_pack.ensures.stays in
    let root = ap (λ d. d.0) c.root.ensures ∙ held.root in
    never_missing p shelf holds (subst (λ (r : List ℕ). IsReason shelf r faults.Missing) root
    (reason_of shelf c.root.result.now.0 c.in-Err-Missing.field-0 faults.Missing c.in-Err-Missing.field-0-is tt c.in-Err-Missing.ensures.refused)))

pub unreachable-requires-in-Err-Malformed : goal.unreachable-requires-in-Err-Malformed
unreachable-requires-in-Err-Malformed g c = ∥∥₁_elim c.args.snapshot.now.own ⊥_prop (λ (p, held).
    let shelf = RecorderHolds c.write_pack.new.shelf in
    let holds = holds_nodes c.args.snapshot.now p c.stock.result.now (RecorderHolds c.new-shelf.result) shelf held c.stock.ensures c.new-shelf.ensures.holds c.write_pack.ensures.stays in
    let root = ap (λ d. d.0) c.root.ensures ∙ held.root in
    never_malformed p shelf holds (subst (λ (r : List ℕ). IsReason shelf r faults.Malformed) root
    (reason_of shelf c.root.result.now.0 c.in-Err-Malformed.field-0 faults.Malformed c.in-Err-Malformed.field-0-is tt c.in-Err-Malformed.ensures.refused)))
