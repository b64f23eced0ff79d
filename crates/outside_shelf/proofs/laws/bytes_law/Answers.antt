use Rattle.std.proofs.Common.{arith}
use Rattle.outside_shelf.proofs.laws.bytes_law.Goals as goal

pub returns : goal.returns
returns c = λ i. omega (arith, c.type_inv._bytes i)
