use Rattle.std.proofs.Common.{◌↔◌, IsTrue, rules}
use Rattle.osm_model.specs.Edges.{IsAtLeast, IsAtMost}
use Rattle.osm_model.specs.Boxes.{Spans}
use Rattle.osm_model.proofs.box_area.BoxArea.holds.Goals as goal

pub returns-then-spans_latitude-clause-holds : goal.returns-then-spans_latitude-clause-holds
returns-then-spans_latitude-clause-holds c =
    let box = c.args.self.now in
    let latitude : IsTrue c.spans_latitude.result ↔ (IsAtLeast c.lat.result box.south.value × IsAtMost c.lat.result box.north.value) = search rules in
    let longitude : IsTrue c.spans_longitude.result ↔ Spans box.west.value box.east.value c.lon.result = search rules in
    let here = rw c.lat.ensures.value at (latitude.0 c.if-spans_latitude.true) in
    let around = rw c.lon.ensures.value at longitude in
    ((λ h. record { above_south = here.0; below_north = here.1; between = around.0 h }), (λ holds. around.1 holds.between))
