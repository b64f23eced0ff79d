use Rattle.std.proofs.Common.{◌≡◌, ◌≢◌, ◌++◌, IsTrue, List, inl, subst, sym}
use Rattle.std.specs.Io.KnownBytes.{Appends}
use Rattle.std.specs.List.{AllByRecursion, flat_map}
use Rattle.byte_io.specs.Written.{AppendsFront}
use Rattle.node_pack.specs.declared.gathered.Gathered.{Gathered}
use Rattle.node_pack.specs.declared.write_fault.WriteFault.{WriteFault}
use Rattle.node_pack.specs.declared.write_fault.WriteFault.TheVariants as faults
use Rattle.node_pack.specs.Headers.{header_with}
use Rattle.node_pack.specs.Packs.{record_bytes}
use Rattle.node_pack.specs.declared.header.TheConstants.{FURTHER_VERSION}
use Rattle.node_pack.specs.internal.Gathering.{kepts, place_by}
use Rattle.node_pack.specs.Additions.{IsFurtherReason, bytes_of, earlier_place}
use Rattle.node_pack.specs.internal.Laying.{AreFit, IsFit}
use Rattle.node_pack.proofs.AddedLemmas.{all_short, are_further, are_new, beside_reason, further_text, not_writers, read_reason, text_begun, text_reason, text_untouched}
use Rattle.node_pack.proofs.WrittenLemmas.{told_is}
use Rattle.node_pack.proofs.further.write_further.Goals as goal

pub lay_beside-requires-clause-fit : goal.lay_beside-requires-clause-fit
lay_beside-requires-clause-fit g c = subst (λ (l : List Gathered). AllByRecursion IsFit l) (sym c.as_slice-listed.ensures.value) c.in_ok-read.ensures.read.fit

pub lay_beside-requires-clause-fresh : goal.lay_beside-requires-clause-fresh
lay_beside-requires-clause-fresh g c =
    let fit = subst (AreFit (bytes_of c.args.nodes.now)) (sym c.as_slice-listed.ensures.value) c.in_ok-read.ensures.read in
    let fresh : IsTrue c.are_new.result = (let new = c.if-not-are_new.false in Prim.cc) in
    are_new c.args.number (earlier_place c.args.number c.args.known.now) c.args.root.now.0 (bytes_of c.args.nodes.now) c.as_slice-listed.result.now fit (c.are_new.ensures.0 fresh)

pub write_laid-requires : goal.write_laid-requires
write_laid-requires g c =
    let fit = subst (AreFit (bytes_of c.args.nodes.now)) (sym c.as_slice-listed.ensures.value) c.in_ok-read.ensures.read in
    all_short c.args.number (earlier_place c.args.number c.args.known.now) c.args.root.now.0 (bytes_of c.args.nodes.now) c.as_slice-listed.result.now fit

pub returns-then-not-are_new-clause-refused : goal.returns-then-not-are_new-clause-refused
returns-then-not-are_new-clause-refused g c = λ other. inl (λ new. let fresh : IsTrue c.are_new.result = c.are_new.ensures.1 new in let old = c.if-not-are_new.true in Prim.cc)

pub returns-in_err-read-clause-refused : goal.returns-in_err-read-clause-refused
returns-in_err-read-clause-refused g c =
    let old = earlier_place c.args.number c.args.known.now in
    let root = c.args.root.now.0 in
    let bytes = bytes_of c.args.nodes.now in
    let fault = c.in_err-read.field-0.0 in
    told_is c.from_residual.result fault (λ (f : WriteFault). f ≢ faults.NotWritten → IsFurtherReason c.args.number old root bytes f) c.from_residual.ensures.1 (λ other. read_reason c.args.number old root bytes fault c.in_err-read.ensures.refused)

pub returns-in_err-read-clause-begun : goal.returns-in_err-read-clause-begun
returns-in_err-read-clause-begun g c = λ told.
    let old = earlier_place c.args.number c.args.known.now in
    let root = c.args.root.now.0 in
    let bytes = bytes_of c.args.nodes.now in
    let fault = c.in_err-read.field-0.0 in
    not_writers c.args.number old root bytes c.from_residual.result fault c.from_residual.ensures.1 (read_reason c.args.number old root bytes fault c.in_err-read.ensures.refused) told

pub returns-in_err-header-clause-refused : goal.returns-in_err-header-clause-refused
returns-in_err-header-clause-refused g c =
    let old = earlier_place c.args.number c.args.known.now in
    let root = c.args.root.now.0 in
    let bytes = bytes_of c.args.nodes.now in
    let fit = subst (AreFit bytes) (sym c.as_slice-listed.ensures.value) c.in_ok-read.ensures.read in
    let fault = c.in_err-header.field-0.0 in
    told_is c.from_residual-in_err-header.result fault (λ (f : WriteFault). f ≢ faults.NotWritten → IsFurtherReason c.args.number old root bytes f) c.from_residual-in_err-header.ensures.1
    (λ other. beside_reason c.args.number old root bytes c.as_slice-listed.result.now fit fault c.in_err-header.ensures.refused)

pub returns-in_err-header-clause-begun : goal.returns-in_err-header-clause-begun
returns-in_err-header-clause-begun g c = λ told.
    let old = earlier_place c.args.number c.args.known.now in
    let root = c.args.root.now.0 in
    let bytes = bytes_of c.args.nodes.now in
    let fit = subst (AreFit bytes) (sym c.as_slice-listed.ensures.value) c.in_ok-read.ensures.read in
    let fault = c.in_err-header.field-0.0 in
    not_writers c.args.number old root bytes c.from_residual-in_err-header.result fault c.from_residual-in_err-header.ensures.1
    (beside_reason c.args.number old root bytes c.as_slice-listed.result.now fit fault c.in_err-header.ensures.refused) told

pub returns-in_err-write_laid-clause-refused : goal.returns-in_err-write_laid-clause-refused
returns-in_err-write_laid-clause-refused g c =
    let old = earlier_place c.args.number c.args.known.now in
    let root = c.args.root.now.0 in
    let bytes = bytes_of c.args.nodes.now in
    let fault = c.in_err-write_laid.field-0.0 in
    let text = header_with FURTHER_VERSION c.in_ok-header.header ++ flat_map (record_bytes (place_by c.lay_beside.new.places)) (kepts c.as_slice-listed.result.now) in
    let before = g.W.Write.contents c.args.writer.now in
    let after = g.W.Write.contents c.write_laid.new.writer in
    told_is c.from_residual-in_err-write_laid.result fault (λ (f : WriteFault). f ≢ faults.NotWritten → IsFurtherReason c.args.number old root bytes f) c.from_residual-in_err-write_laid.ensures.1
    (text_reason c.args.number old root bytes text before after (c.write_laid.new.writer ≡ c.args.writer.now) fault c.in_err-write_laid.ensures.refused)

pub returns-in_err-write_laid-clause-untouched : goal.returns-in_err-write_laid-clause-untouched
returns-in_err-write_laid-clause-untouched g c =
    let old = earlier_place c.args.number c.args.known.now in
    let fault = c.in_err-write_laid.field-0.0 in
    let text = header_with FURTHER_VERSION c.in_ok-header.header ++ flat_map (record_bytes (place_by c.lay_beside.new.places)) (kepts c.as_slice-listed.result.now) in
    let before = g.W.Write.contents c.args.writer.now in
    let after = g.W.Write.contents c.write_laid.new.writer in
    let same = c.write_laid.new.writer ≡ c.args.writer.now in
    told_is c.from_residual-in_err-write_laid.result fault (λ (f : WriteFault). f ≢ faults.NotWritten → same) c.from_residual-in_err-write_laid.ensures.1
    (text_untouched c.args.number old c.args.root.now.0 (bytes_of c.args.nodes.now) text before after same fault c.in_err-write_laid.ensures.refused)

pub returns-in_err-write_laid-clause-begun : goal.returns-in_err-write_laid-clause-begun
returns-in_err-write_laid-clause-begun g c = λ told.
    let number = c.args.number in
    let old = earlier_place number c.args.known.now in
    let root = c.args.root.now.0 in
    let bytes = bytes_of c.args.nodes.now in
    let nodes = c.as_slice-listed.result.now in
    let before = g.W.Write.contents c.args.writer.now in
    let after = g.W.Write.contents c.write_laid.new.writer in
    let fit = subst (AreFit bytes) (sym c.as_slice-listed.ensures.value) c.in_ok-read.ensures.read in
    let text = further_text number old root (kepts nodes) c.in_ok-header.header _ c.in_ok-header.ensures.header c.in_ok-header.ensures.records in (
      kepts nodes,
      are_further number old root bytes nodes fit c.in_ok-header.ensures.is_further,
      subst (AppendsFront before after) text
          (text_begun number old root bytes _ before after _ c.from_residual-in_err-write_laid.result c.in_err-write_laid.field-0.0 c.from_residual-in_err-write_laid.ensures.1 c.in_err-write_laid.ensures.refused told),
    )

pub returns-clause-written : goal.returns-clause-written
returns-clause-written g c =
    let number = c.args.number in
    let old = earlier_place number c.args.known.now in
    let root = c.args.root.now.0 in
    let bytes = bytes_of c.args.nodes.now in
    let nodes = c.as_slice-listed.result.now in
    let before = g.W.Write.contents c.args.writer.now in
    let after = g.W.Write.contents c.write_laid.new.writer in
    let fit = subst (AreFit bytes) (sym c.as_slice-listed.ensures.value) c.in_ok-read.ensures.read in
    let text = further_text number old root (kepts nodes) c.in_ok-header.header _ c.in_ok-header.ensures.header c.in_ok-header.ensures.records in (
      kepts nodes,
      are_further number old root bytes nodes fit c.in_ok-header.ensures.is_further,
      subst (Appends before after) text c.in_ok-write_laid.ensures.whole,
      c.in_ok-header.ensures.header,
    )
