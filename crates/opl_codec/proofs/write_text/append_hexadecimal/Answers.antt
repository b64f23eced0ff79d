use Rattle.std.proofs.Common.{◌-◌, [], ◌∷◌, ◌∙◌, ap, drop}
use Rattle.std.proofs.lemmas.List.{take_rest}
use Rattle.opl_codec.proofs.shared.AppendSteps.{appended}
use Rattle.opl_codec.proofs.WriteText.{last_places}
use Rattle.opl_codec.proofs.write_text.append_hexadecimal.Goals as goal

pub returns-clause-ok : goal.returns-clause-ok
returns-clause-ok c =
    let digits = c.hex_digit.result ∷ c.hex_digit-2.result ∷ c.hex_digit-3.result ∷ c.hex_digit-4.result ∷ c.hex_digit-5.result ∷ c.hex_digit-6.result ∷ 37 ∷ [] in
    let last = last_places c.args.code _ _ _ _ _ _ c.hex_digit.ensures c.hex_digit-2.ensures c.hex_digit-3.ensures c.hex_digit-4.ensures c.hex_digit-5.ensures c.hex_digit-6.ensures in
    appended _ _ _ _ _ c.extend_from_slice.ensures.items (take_rest digits (6 - c.hex_places.result) ∙ (ap (λ places. drop (6 - places) digits) c.hex_places.ensures.value ∙ last))
