use Rattle.std.proofs.Common.{◌++◌, List, ℕ, ap, subst, ◌∙◌}
use Rattle.std.specs.List.{flat_map}
use Rattle.std.specs.Io.KnownBytes.{Appends}
use Rattle.std.proofs.KnownBytes.{Appends-trans}
use Rattle.byte_io.specs.Written.{AppendsFront}
use Rattle.node_pack.specs.Headers.{header_with}
use Rattle.node_pack.specs.Packs.{record_bytes}
use Rattle.node_pack.specs.declared.write_fault.WriteFault.TheVariants as faults
use Rattle.node_pack.specs.internal.Gathering.{kepts, place_by}
use Rattle.node_pack.proofs.WriteLemmas.{front_of_both, front_of_first}
use Rattle.node_pack.specs.declared.header.TheConstants.{FURTHER_VERSION}
use Rattle.node_pack.specs.internal.Laying.{IsTextFault}
use Rattle.node_pack.proofs.WrittenLemmas.{told_is}
use Rattle.node_pack.proofs.further.write_laid.Goals as goal

pub returns-in_err-write_whole-clause-refused : goal.returns-in_err-write_whole-clause-refused
returns-in_err-write_whole-clause-refused g c =
    let old = g.W.Write.contents c.args.writer.now in
    let new = g.W.Write.contents c.write_whole.new.writer in
    let header = header_with FURTHER_VERSION c.args.header.now in
    let records = flat_map (record_bytes (place_by c.args.places.now)) (kepts c.args.nodes.now) in
    let text = c.as_slice.ensures.value ∙ c.in_ok-append_header.ensures ∙ ap (λ (l : List ℕ). l ++ header) c.new-front.ensures.items in
    told_is c.from_residual-in_err-write_whole.result faults.NotWritten (IsTextFault (header ++ records) old new _) c.from_residual-in_err-write_whole.ensures.1
    (front_of_first old new header records (subst (AppendsFront old new) text c.write_whole.ensures.begun))

pub returns-in_err-write_records-clause-refused : goal.returns-in_err-write_records-clause-refused
returns-in_err-write_records-clause-refused g c =
    let old = g.W.Write.contents c.args.writer.now in
    let mid = g.W.Write.contents c.write_whole.new.writer in
    let new = g.W.Write.contents c.write_records.new.writer in
    let header = header_with FURTHER_VERSION c.args.header.now in
    let records = flat_map (record_bytes (place_by c.args.places.now)) (kepts c.args.nodes.now) in
    let text = c.as_slice.ensures.value ∙ c.in_ok-append_header.ensures ∙ ap (λ (l : List ℕ). l ++ header) c.new-front.ensures.items in
    told_is c.from_residual-in_err-write_records.result faults.NotWritten (IsTextFault (header ++ records) old new _) c.from_residual-in_err-write_records.ensures.1
    (front_of_both old mid new header records (subst (Appends old mid) text c.in_ok-write_whole.ensures.whole) c.write_records.ensures.begun)

pub returns-clause-whole : goal.returns-clause-whole
returns-clause-whole g c =
    let old = g.W.Write.contents c.args.writer.now in
    let mid = g.W.Write.contents c.write_whole.new.writer in
    let new = g.W.Write.contents c.write_records.new.writer in
    let header = header_with FURTHER_VERSION c.args.header.now in
    let records = flat_map (record_bytes (place_by c.args.places.now)) (kepts c.args.nodes.now) in
    let text = c.as_slice.ensures.value ∙ c.in_ok-append_header.ensures ∙ ap (λ (l : List ℕ). l ++ header) c.new-front.ensures.items in
    Appends-trans old mid new header records (subst (Appends old mid) text c.in_ok-write_whole.ensures.whole) c.in_ok-write_records.ensures.whole
