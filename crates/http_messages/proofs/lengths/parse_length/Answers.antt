use Rattle.std.proofs.Common.{ap, arith, take_all}
use Rattle.std.specs.Str.Parse.{digits_value}
use Rattle.http_messages.proofs.shared.FieldLemmas.{digits-more, digits-small, length-parts}
use Rattle.http_messages.proofs.lengths.parse_length.Goals as goal

pub overflow_mul-length : goal.overflow_mul-length
overflow_mul-length c =
    let (short, all) = length-parts c.args.value.now c.requires in
    let more = digits-more c.args.value.now c.loop-byte.byte-index all short c.loop-byte-test.true in
    omega (arith, more.0, more.1, c.loop-byte.invariant)

pub overflow_add-length : goal.overflow_add-length
overflow_add-length c =
    let (short, all) = length-parts c.args.value.now c.requires in
    let more = digits-more c.args.value.now c.loop-byte.byte-index all short c.loop-byte-test.true in
    omega (arith, more.0, more.1, c.loop-byte.invariant)

pub loop-byte-preserved : goal.loop-byte-preserved
loop-byte-preserved c =
    let (short, all) = length-parts c.args.value.now c.requires in
    let more = digits-more c.args.value.now c.loop-byte.byte-index all short c.loop-byte-test.true in
    omega (arith, more.0, c.loop-byte.invariant, c.from.ensures)

pub returns-clause-bound : goal.returns-clause-bound
returns-clause-bound c =
    let value = c.args.value.now in
    let (short, all) = length-parts value c.requires in
    let whole = ap (digits_value 10) (take_all c.loop-byte.byte-index value c.loop-byte-test.false) in
    omega (arith, c.loop-byte.invariant, whole, digits-small value all short)
