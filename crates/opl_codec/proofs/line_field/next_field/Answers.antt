use Rattle.std.proofs.Common.{◌≡◌, ◌-◌, ◌∙◌, ap, arith, take}
use Rattle.opl_codec.proofs.Blanks.{boundary, next_is}
use Rattle.opl_codec.proofs.line_field.next_field.Goals as goal

pub range_from-after-requires : goal.range_from-after-requires
range_from-after-requires c = λ some. boundary c.args.text.now c.blanks_len-gap.result c.utf8.text some (rw c.as_bytes.ensures.value at c.blanks_len-gap.ensures.within) (rw c.as_bytes.ensures.value at c.blanks_len-gap.ensures.blanks)

pub returns : goal.returns
returns c =
    let from_zero : c.field_len-len.result - 0 ≡ c.field_len-len.result = omega arith in
    next_is c.args.text.now c.blanks_len-gap.result c.range_from-after.result.now _ _ c.field_len-len.result
    (rw c.as_bytes.ensures.value at c.blanks_len-gap.ensures.within) (λ e. c.if-gap-text.false e)
    (rw c.as_bytes.ensures.value at c.blanks_len-gap.ensures.blanks) (rw c.as_bytes.ensures.value at c.blanks_len-gap.ensures.stop)
    c.range_from-after.ensures.value
    (rw c.as_bytes-2.ensures.value at c.field_len-len.ensures.field) (rw c.as_bytes-2.ensures.value at c.field_len-len.ensures.stop)
    (c.range.ensures.value ∙ ap (λ n. take n c.range_from-after.result.now) from_zero) c.range_from.ensures.value
