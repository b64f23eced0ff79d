use Rattle.std.proofs.Common.{◌≤◌, FitsSigned, w32, arith, rules}
use Rattle.std.proofs.lemmas.Int.{to_z-of_z}
use Rattle.osm_model.specs.DecimalParts.{fraction_of}
use Rattle.osm_model.proofs.EdgeSizes.{edge_of}
use Rattle.osm_model.proofs.edge.read_edge.Goals as goal

pub invariant_of-result : goal.invariant_of-result
invariant_of-result c =
    let low : FitsSigned w32 c.with_sign-floor.result.0 = search rules in
    let high : FitsSigned w32 c.with_sign-floor.result.1 = search rules in
    let small : c.sizes_of-sizes.result.floor ≤ 1800000000 = search rules in
    rw (to_z-of_z w32 c.with_sign-floor.result.0 low, to_z-of_z w32 c.with_sign-floor.result.1 high, c.with_sign-floor.ensures.floor, c.with_sign-floor.ensures.ceiling)
    (let edge = edge_of c.args.axis c.in-Some.parts.negative c.in-Some.parts.whole.now c.decimals.result.now (fraction_of c.in-Some.parts.fraction) c.sizes_of-sizes.result.floor c.sizes_of-sizes.result.ceiling c.in-Some.ensures.found.decimal c.decimals.ensures (c.sizes_of-sizes.ensures.small small) (omega (arith, c.limit.ensures)) in (edge.0, edge.1))
