use Rattle.std.proofs.Common.{◌++◌, ◌∷◌, length, sym, ◌∙◌, ap, arith}
use Rattle.std.proofs.lemmas.Str.{IsCharBoundary-after_ascii}
use Rattle.osm_model.specs.Bytes.{at_sign}
use Rattle.opl_codec.proofs.ValueMembers.{never_target, no_target, after_at, at_there}
use Rattle.opl_codec.proofs.member_item.cut_target.Goals as goal

pub returns-in_default : goal.returns-in_default
returns-in_default c = never_target c.args.spelled.now (rw c.as_bytes.ensures.value at c.in_default.ensures.parts)

pub returns-in_default-read_reference : goal.returns-in_default-read_reference
returns-in_default-read_reference c =
    let parts = rw c.as_bytes.ensures.value at c.in-Some.ensures.parts in
    no_target c.args.spelled.now c.in-Some.text.now c.in-Some.field-0-1.now parts.0 parts.1 c.in_default-read_reference.ensures

pub range_from-requires : goal.range_from-requires
range_from-requires c = λ some.
    let parts = rw c.as_bytes.ensures.value at c.in-Some.ensures.parts in
    let there = at_there c.args.spelled.now c.in-Some.text.now c.in-Some.field-0-1.now parts.0 in
    IsCharBoundary-after_ascii c.args.spelled.now (length c.in-Some.text.now) c.utf8.spelled there.0 (omega (arith, there.1))

pub returns : goal.returns
returns c =
    let parts = rw c.as_bytes.ensures.value at c.in-Some.ensures.parts in
    let text = c.in-Some.text.now in
    let same = c.range_from.ensures.value ∙ after_at c.args.spelled.now text c.in-Some.field-0-1.now parts.0 in
    (text, parts.0 ∙ ap (λ r. text ++ at_sign ∷ r) (sym same), c.in-Some-read_reference.ensures)
