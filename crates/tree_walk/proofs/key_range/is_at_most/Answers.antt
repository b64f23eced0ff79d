use Rattle.std.proofs.Common.{arith}
use Rattle.tree_walk.proofs.shared.KeyLemmas.{at_most_unless}
use Rattle.tree_walk.proofs.key_range.is_at_most.Goals as goal

pub returns-clause-told : goal.returns-clause-told
returns-clause-told c = at_most_unless c.args.low.now c.args.high.now c.is_below.result c.is_below.ensures

pub returns-clause-bytes : goal.returns-clause-bytes
returns-clause-bytes c = λ i. omega (arith, c.type_inv.low i)
