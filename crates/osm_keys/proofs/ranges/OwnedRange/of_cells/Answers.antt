use Rattle.std.proofs.Common.{◌≡◌, ◌++◌, ◌∙◌, arith}
use Rattle.osm_keys.specs.Keys.{cell_bytes}
use Rattle.osm_keys.proofs.CellLemmas.{eight_bytes, range_kept}
use Rattle.osm_keys.proofs.ranges.OwnedRange.of_cells.Goals as goal

pub invariant_of-result : goal.invariant_of-result
invariant_of-result c =
    let low = c.cell_bytes.result in
    let high = c.cell_bytes-2.result in
    let bytes : c.in_ok-ends.ends.items ≡ cell_bytes c.args.row c.args.first ++ cell_bytes c.args.row c.args.last =
    c.in_ok-ends.ensures.items ∙ eight_bytes low high c.args.row c.args.first c.args.last c.cell_bytes.ensures c.cell_bytes-2.ensures in
    range_kept c.in_ok-ends.ends.items c.args.row c.args.first c.args.last bytes (omega (arith, c.ranges.row.fits)) (omega (arith, c.ranges.last.fits)) c.requires
