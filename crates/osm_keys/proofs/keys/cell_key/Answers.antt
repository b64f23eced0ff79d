use Rattle.std.proofs.Common.{◌≡◌, refl, arith, FitsSigned, w64, rules}
use Rattle.std.proofs.lemmas.Int.{to_z-of_z}
use Rattle.osm_keys.specs.Keys.{cell_bytes, id_bytes, row, column}
use Rattle.osm_keys.proofs.Ids.{same_number, cell_parts}
use Rattle.osm_keys.proofs.keys.cell_key.Goals as goal

pub returns : goal.returns
returns c =
    let place = c.lat.ensures.place in
    let fits : FitsSigned w64 c.args.id = search rules in
    let lat = same_number c.args.place.lat (omega (arith, place.lat)) in
    let lon = same_number c.args.place.lon (omega (arith, place.lon)) in
    let cell : c.cell_bytes.result ≡ cell_bytes (row c.args.place.lat) (column c.args.place.lon) =
    rw (c.cell_bytes.ensures, c.row.ensures.value, c.column.ensures.value, c.lat.ensures.value, c.lon.ensures.value, lat, lon) refl in
    let id : c.id_bytes.result ≡ id_bytes c.args.id = rw (c.id_bytes.ensures, to_z-of_z w64 c.args.id fits) refl in
    cell_parts _ _ _ _ _ cell id
