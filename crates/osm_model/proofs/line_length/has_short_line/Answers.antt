use Rattle.std.proofs.Common.{◌≡◌, min, length, arith, rules, refl, FitsSigned}
use Rattle.std.specs.Int.{w64}
use Rattle.std.proofs.lemmas.Int.{to_z-of_z}
use Rattle.std.proofs.lemmas.Bool.Decides.{nat_tests}
use Rattle.osm_model.specs.Elements.{Element}
use Rattle.osm_model.specs.CanonicalLine.{canonical_line, all_fields}
use Rattle.osm_model.specs.internal.LineLength.{spaced_len}
use Rattle.osm_model.proofs.LineLengths.{at_limit, line_len}
use Rattle.osm_model.proofs.FewBytes.{few_make_short}
use Rattle.osm_model.proofs.line_length.has_short_line.Goals as goal

pub returns-then-text_bytes-le-FEW : goal.returns-then-text_bytes-le-FEW
returns-then-text_bytes-le-FEW c =
    let o : Element = record { id = c.args.id; meta = c.args.meta.now; tags = c.args.tags.now; body = c.args.body.now } in
    let id_fits : FitsSigned w64 c.args.id = search rules in
    let short = few_make_short o id_fits c.note_numbers.ensures c.note_body.ensures (omega (arith, c.text_bytes.ensures, c.if-text_bytes-le-FEW.true)) in
    (λ _. short, λ _. refl)

pub returns : goal.returns
returns c =
    let o : Element = record { id = c.args.id; meta = c.args.meta.now; tags = c.args.tags.now; body = c.args.body.now } in
    let id_fits : FitsSigned w64 c.args.id = search rules in
    let sum : c.fields_len.result ≡ min (spaced_len (all_fields o)) 18446744073709551615 = simp to_z-of_z at c.fields_len.ensures in
    let both = at_limit (length (canonical_line o)) (spaced_len (all_fields o)) c.fields_len.result (line_len o) sum in
    (λ h. both.0 (grind (arith, nat_tests)), λ h. let k = both.1 h in grind (arith, nat_tests))
