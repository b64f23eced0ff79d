use Rattle.std.proofs.Common.{arith}
use Rattle.std.proofs.lemmas.Int.Digits.{digits_more}
use Rattle.byte_io.proofs.digits.digits_len.Goals as goal

pub loop-i-preserved : goal.loop-i-preserved
loop-i-preserved c = digits_more 10 _ _ (omega arith) c.loop-i.invariant c.if-not-is_ascii_digit.ensures.bound
