-- Three parts, one after the other, are the document.
use Rattle.std.proofs.Common.{◌∙◌, ℕ, List, ◌++◌, ap, drop, length, refl}
use Rattle.osm_check_web.proofs.Puts.{put_three}
use Rattle.osm_check_web.proofs.documents.put_document.Goals as goal

pub returns-clause-fits : goal.returns-clause-fits
returns-clause-fits c fits =
    let parts = c.document_parts-parts.result in
    let put = put_three c.args.room.now c.put.new.room c.put-2.new.room c.put-3.new.room parts.header.now parts.body.now parts.trailer.now c.put.ensures c.put-2.ensures c.put-3.ensures in
    (refl, put ∙ ap (λ (bytes : List ℕ). bytes ++ drop (length bytes) c.args.room.now) c.document_parts-parts.ensures)
