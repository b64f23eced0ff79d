use Rattle.std.proofs.Common.{List, ℕ, Ok, Err, ap, inr, refl, subst, sym, ◌∙◌}
use Rattle.node_pack.specs.Known.{IsKnown}
use Rattle.node_pack.specs.Packs.{pack, place_in}
use Rattle.node_pack.specs.Sources.{IsOpenFault}
use Rattle.node_pack.proofs.HeaderLemmas.{front_read, header_read}
use Rattle.node_pack.proofs.PackLemmas.{fault_is, has_header}
use Rattle.node_pack.proofs.shared.PackPlaces.{packed}
use Rattle.node_pack.proofs.source.PackSource.open.Goals as goal

pub returns-in_err-header-clause-refused : goal.returns-in_err-header-clause-refused
returns-in_err-header-clause-refused g c = λ bytes reads.
    let size = c.in_ok-size.ensures.size bytes reads in
    let front = c.as_slice.ensures.value ∙ front_read bytes c.read_at.new.into.items c.new-buffer.result.items c.in_ok-size.size c.min.result
    (c.in_ok-read_at.ensures.read bytes (c.size.ensures.stays bytes reads)) c.new-buffer.ensures.items c.min.ensures size in
    let read = header_read bytes c.as_slice.result.now c.in_ok-size.size c.read_header.result (Err c.in_err-header.field-0.0) c.read_header.ensures c.in_err-header.was front size in
    fault_is c.from_residual-in_err-header.result c.in_err-header.field-0.0 (IsOpenFault bytes) c.from_residual-in_err-header.ensures.1 (inr (inr read))

pub returns-clause-over : goal.returns-clause-over
returns-clause-over g c = λ root nodes reads is.
    let bytes = pack root nodes in
    let size = c.in_ok-size.ensures.size bytes reads in
    let front = c.as_slice.ensures.value ∙ front_read bytes c.read_at.new.into.items c.new-buffer.result.items c.in_ok-size.size c.min.result
    (c.in_ok-read_at.ensures.read bytes (c.size.ensures.stays bytes reads)) c.new-buffer.ensures.items c.min.ensures size in
    let read = header_read bytes c.as_slice.result.now c.in_ok-size.size c.read_header.result (Ok c.in_ok-header.header) c.read_header.ensures c.in_ok-header.was front size in
    let has = has_header root nodes c.in_ok-header.header is read in (
      record {
        bytes = bytes;
        is_read = c.read_at.ensures.stays bytes (c.size.ensures.stays bytes reads);
        are = packed root nodes is;
        rooted = has.same;
        manifest = ap (place_in nodes) (sym has.same) ∙ has.is;
        near = has.near;
        size = size;
        trues = c.in_ok-places.ensures.trues (place_in nodes) has.is;
      },
      subst (λ (key : List ℕ). IsKnown c.in_ok-places.places key) has.same (c.in_ok-places.ensures.known has.near),
    )

pub returns-clause-header : goal.returns-clause-header
returns-clause-header g c = λ bytes reads.
    let size = c.in_ok-size.ensures.size bytes reads in
    let front = c.as_slice.ensures.value ∙ front_read bytes c.read_at.new.into.items c.new-buffer.result.items c.in_ok-size.size c.min.result
    (c.in_ok-read_at.ensures.read bytes (c.size.ensures.stays bytes reads)) c.new-buffer.ensures.items c.min.ensures size in
    (c.in_ok-header.header, header_read bytes c.as_slice.result.now c.in_ok-size.size c.read_header.result (Ok c.in_ok-header.header) c.read_header.ensures c.in_ok-header.was front size, refl)
