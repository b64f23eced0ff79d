use Rattle.std.proofs.Common.{◌≡◌, ◌∙◌, ap}
use Rattle.std.specs.Fmt.{decimal}
use Rattle.std.proofs.lemmas.Fmt.{parse-decimal}
use Rattle.pack_head.proofs.NumberLemmas.{IsUtf8-decimal}
use Rattle.pack_head.proofs.StepLemmas.{failed}
use Rattle.pack_head.proofs.digits.read_number.Goals as goal

pub returns-in_default : goal.returns-in_default
returns-in_default c = λ number small is. c.in_default.ensures.cases.0 (IsUtf8-decimal c.args.text.now number small is)

pub returns-in_default-parse : goal.returns-in_default-parse
returns-in_default-parse c = λ number small is.
    let parsed = parse-decimal 64 number c.in-Ok.digits.now c.parse.result small small (c.in-Ok.ensures.cases.0 ∙ is) c.parse.ensures.value.0 in
    let failed = c.in_default-parse.is in
    cc

pub returns-else-is_number_text : goal.returns-else-is_number_text
returns-else-is_number_text c = λ number small is.
    let parsed = parse-decimal 64 number c.in-Ok.digits.now c.parse.result small small (c.in-Ok.ensures.cases.0 ∙ is) c.parse.ensures.value.0 in
    let got = c.in-Ok-parse.is in
    let same : number ≡ c.in-Ok-parse.number = cc in
    failed _ _ c.is_number_text.ensures c.if-is_number_text.false (is ∙ ap decimal same)
