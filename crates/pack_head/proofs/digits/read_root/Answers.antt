use Rattle.std.proofs.Common.{◌≡◌, ◌∙◌, ap}
use Rattle.hex.specs.Hex.{encode_lower}
use Rattle.pack_head.proofs.NumberLemmas.{decoded}
use Rattle.pack_head.proofs.StepLemmas.{failed}
use Rattle.pack_head.proofs.digits.read_root.Goals as goal

pub returns-in_default : goal.returns-in_default
returns-in_default c = λ root is spelled.
    let read = decoded c.args.text.now root is spelled in
    let told = c.from_hex.ensures in
    let failed = c.in_default.is in
    cc

pub returns-else-is_root_text : goal.returns-else-is_root_text
returns-else-is_root_text c = λ root is spelled.
    let read = decoded c.args.text.now root is spelled in
    let told = c.from_hex.ensures in
    let got = c.in-Ok.is in
    let same : root ≡ c.in-Ok.bytes = cc in
    failed _ _ c.is_root_text.ensures c.if-is_root_text.false (spelled ∙ ap encode_lower same)
