use Rattle.std.proofs.Common.{arith}
use Rattle.pack_assembly.proofs.layout.row_at.Goals as goal

pub returns-clause-there : goal.returns-clause-there
returns-clause-there c = λ at has.
    let (k, lt, is) = has.is_in in
    absurd (c.loop-placed.invariant has.placed k (omega (arith, lt, c.loop-placed-test.false)) is has.tree_is has.level_is)
