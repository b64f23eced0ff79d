use Rattle.std.proofs.Common.{ℤ, arith}
use Rattle.osm_model.specs.Degrees.{Decimal}
use Rattle.osm_model.specs.Edges.{IsCeiling, IsFloor}
use Rattle.osm_model.specs.declared.axis.Axis.TheVariants.{Lat, Lon}
use Rattle.osm_keys.proofs.CellLemmas.{one_edge}
use Rattle.light_keys.proofs.whole_edges.WholeEdges.inside.Goals as goal

pub returns : goal.returns
returns c =
    let b = c.args.area.now in
    let box = c.south.ensures.shape in
    let up = λ (d : Decimal) (z : ℤ). IsCeiling d z in
    let down = λ (d : Decimal) (z : ℤ). IsFloor d z in
    let south = one_edge up c.south.result.now b.south Lat c.ceiling_units.result c.south.ensures.value box.south c.ceiling_units.ensures.ceiling c.ceiling_units.ensures.within (omega arith) in
    let west = one_edge up c.west.result.now b.west Lon c.ceiling_units-2.result c.west.ensures.value box.west c.ceiling_units-2.ensures.ceiling c.ceiling_units-2.ensures.within (omega arith) in
    let north = one_edge down c.north.result.now b.north Lat c.floor_units.result c.north.ensures.value box.north c.floor_units.ensures.floor c.floor_units.ensures.within (omega arith) in
    let east = one_edge down c.east.result.now b.east Lon c.floor_units-2.result c.east.ensures.value box.east c.floor_units-2.ensures.floor c.floor_units-2.ensures.within (omega arith) in
    record {
      south = south.0;
      west = west.0;
      north = north.0;
      east = east.0;
      south_few = south.1;
      west_few = west.1;
      north_few = north.1;
      east_few = east.1;
    }
