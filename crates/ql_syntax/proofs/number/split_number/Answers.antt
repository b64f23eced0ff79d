use Rattle.std.proofs.Common.{refl}
use Rattle.ql_syntax.proofs.Exits.{none_from_test, some_from_test}
use Rattle.ql_syntax.proofs.NumberLemmas.{no_digit, parts_of, digits_of, number_of}
use Rattle.ql_syntax.proofs.number.split_number.Goals as goal

pub returns-then-is_empty-clause-refused : goal.returns-then-is_empty-clause-refused
returns-then-is_empty-clause-refused c =
    let at = c.split_at.ensures in
    no_digit c.args.text.now c.split_sign-signed.result.rest.now c.split_at.result.0.now c.split_at.result.1.now c.split_sign-signed.result.negative c.digits_len.result c.misfit.result.cause c.misfit.result.rest.now
    c.split_sign-signed.ensures.parts c.split_sign-signed.ensures.plain at.front at.back (none_from_test _ _ c.is_empty.ensures c.if-is_empty.true) c.digits_len.ensures.stop
    c.misfit.ensures.cause c.misfit.ensures.place

pub returns-clause-read : goal.returns-clause-read
returns-clause-read c =
    let at = c.split_at.ensures in
    let after = parts_of c.args.text.now c.split_sign-signed.result.rest.now c.split_at.result.0.now c.split_at.result.1.now c.split_sign-signed.result.negative c.digits_len.result c.split_sign-signed.ensures.parts at.front at.back in
    let digits = digits_of c.split_sign-signed.result.rest.now c.split_at.result.0.now c.digits_len.result at.front c.digits_len.ensures.digits (some_from_test _ _ c.is_empty.ensures c.if-is_empty.false) in
    number_of c.args.text.now c.split_at.result.1.now _ c.split_fraction-fraction.result after digits c.split_fraction-fraction.ensures refl refl refl
