use Rattle.std.proofs.Common.{arith, ap, length, length-append, ◌++◌}
use Rattle.osm_forms.proofs.document.document_len.Goals as goal

pub returns : goal.returns
returns c =
    let parts = c.document_parts-parts.result in
    let whole = ap length c.document_parts-parts.ensures.parts in
    omega (arith, whole, length-append parts.header.now (parts.body.now ++ parts.trailer.now), length-append parts.body.now parts.trailer.now)
