use Rattle.std.proofs.Common.{◌++◌, ◌≤◌, ◌^◌, ◌∙◌, ℕ, List, ap, refl, subst}
use Rattle.node_pack.specs.Headers.{header_bytes}
use Rattle.node_pack.specs.declared.header.Header.{Header}
use Rattle.node_pack.specs.declared.write_fault.WriteFault.TheVariants as faults
use Rattle.node_pack.specs.internal.Gathering.{IsPackFault, kepts, place_by}
use Rattle.node_pack.proofs.WrittenLemmas.{layout_fault, pack_front, pack_part, pack_whole, told_is}
use Rattle.node_pack.proofs.writing.write_nodes.Goals as goal

pub returns-in_err-size-clause-refused : goal.returns-in_err-size-clause-refused
returns-in_err-size-clause-refused g c =
    let contents = g.W.Write.contents c.args.writer.now in
    told_is c.from_residual.result c.in_err-size.field-0.0 (IsPackFault c.args.root.now.0 (kepts c.args.nodes.now) contents contents _) c.from_residual.ensures.1
    (layout_fault c.args.root.now.0 (kepts c.args.nodes.now) contents contents _ c.in_err-size.field-0.0 c.requires.apart c.in_err-size.ensures.refused refl)

pub returns-in_err-write_whole-clause-refused : goal.returns-in_err-write_whole-clause-refused
returns-in_err-write_whole-clause-refused g c =
    let old = g.W.Write.contents c.args.writer.now in
    let new = g.W.Write.contents c.write_whole.new.writer in
    let root = c.args.root.now.0 in
    let nodes = kepts c.args.nodes.now in
    let header : Header = record { root = c.args.root.now; size = c.in_ok-size.size; manifest = c.place_of.result } in
    let size = c.in_ok-size.ensures in
    let text = c.as_slice.ensures.value ∙ c.in_ok-append_header.ensures ∙ ap (λ (l : List ℕ). l ++ header_bytes header) c.new-front.ensures.items in
    told_is c.from_residual-in_err-write_whole.result faults.NotWritten (IsPackFault root nodes old new _) c.from_residual-in_err-write_whole.ensures.1 (
      subst (λ (n : ℕ). n ≤ 2 ^ 48) size.len size.short,
      pack_front root nodes (place_by c.lay_out.new.places) header size.places refl size.len c.place_of.ensures c.as_slice.result.now text old new new c.write_whole.ensures.begun,
    )

pub returns-in_err-write_records-clause-refused : goal.returns-in_err-write_records-clause-refused
returns-in_err-write_records-clause-refused g c =
    let old = g.W.Write.contents c.args.writer.now in
    let mid = g.W.Write.contents c.write_whole.new.writer in
    let new = g.W.Write.contents c.write_records.new.writer in
    let root = c.args.root.now.0 in
    let nodes = kepts c.args.nodes.now in
    let header : Header = record { root = c.args.root.now; size = c.in_ok-size.size; manifest = c.place_of.result } in
    let size = c.in_ok-size.ensures in
    let text = c.as_slice.ensures.value ∙ c.in_ok-append_header.ensures ∙ ap (λ (l : List ℕ). l ++ header_bytes header) c.new-front.ensures.items in
    told_is c.from_residual-in_err-write_records.result faults.NotWritten (IsPackFault root nodes old new _) c.from_residual-in_err-write_records.ensures.1 (
      subst (λ (n : ℕ). n ≤ 2 ^ 48) size.len size.short,
      pack_part root nodes (place_by c.lay_out.new.places) header size.places refl size.len c.place_of.ensures c.as_slice.result.now text old mid new c.in_ok-write_whole.ensures.whole c.write_records.ensures.begun,
    )

pub returns-clause-written : goal.returns-clause-written
returns-clause-written g c =
    let old = g.W.Write.contents c.args.writer.now in
    let mid = g.W.Write.contents c.write_whole.new.writer in
    let new = g.W.Write.contents c.write_records.new.writer in
    let header : Header = record { root = c.args.root.now; size = c.in_ok-size.size; manifest = c.place_of.result } in
    let size = c.in_ok-size.ensures in
    let text = c.as_slice.ensures.value ∙ c.in_ok-append_header.ensures ∙ ap (λ (l : List ℕ). l ++ header_bytes header) c.new-front.ensures.items in
    pack_whole c.args.root.now.0 (kepts c.args.nodes.now) (place_by c.lay_out.new.places) header size.places refl size.len c.place_of.ensures c.as_slice.result.now text old mid new c.in_ok-write_whole.ensures.whole
    c.in_ok-write_records.ensures.whole
