use Rattle.std.proofs.Common.{arith}
use Rattle.light_keys.proofs.shared.FineOrder.{first_in}
use Rattle.light_keys.proofs.fine_range.FineRange.in_row.Goals as goal

pub invariant_of-result : goal.invariant_of-result
invariant_of-result c =
    let columns = c.args.columns in
    let inside = first_in c.args.row columns.first columns.last (omega (arith, c.ranges.row.fits)) (omega (arith, columns.within)) columns.ordered in
    rw (c.fine_corner.ensures, c.fine_corner-2.ensures) inside
