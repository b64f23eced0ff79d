use Rattle.std.proofs.Common.{rules, FitsSigned}
use Rattle.std.specs.Int.{w64}
use Rattle.std.proofs.lemmas.Int.{to_z-of_z}
use Rattle.osm_model.specs.Elements.{Element}
use Rattle.osm_model.proofs.LineLengths.{fields_len}
use Rattle.osm_model.proofs.line_length.fields_len.Goals as goal

pub returns : goal.returns
returns c =
    let o : Element = record { id = c.args.id; meta = c.args.meta.now; tags = c.args.tags.now; body = c.args.body.now } in
    let id_fits : FitsSigned w64 c.args.id = search rules in
    let name = simp (c.signed_len.ensures, to_z-of_z) at c.field_len.ensures in
    fields_len o _ _ _ _ _ _ _ _ name c.meta_len.ensures c.tags_len.ensures c.list_len.ensures c.body_len.ensures
    c.saturating_add.ensures c.saturating_add-2.ensures c.saturating_add-3.ensures
