use Rattle.std.proofs.Common.{◌≡◌, refl, arith, FitsSigned, w64, rules}
use Rattle.std.proofs.lemmas.Int.{to_z-of_z}
use Rattle.osm_keys.specs.Keys.{id_bytes}
use Rattle.osm_keys.proofs.Ids.{same_number}
use Rattle.osm_keys.specs.FineKeys.{fine_column, fine_corner, fine_row}
use Rattle.light_keys.proofs.FineLemmas.{key_parts}
use Rattle.light_keys.proofs.fine_keys.fine_cell_key.Goals as goal

pub returns : goal.returns
returns c =
    let place = c.lat.ensures.place in
    let fits : FitsSigned w64 c.args.id = search rules in
    let lat = same_number c.args.place.lat (omega (arith, place.lat)) in
    let lon = same_number c.args.place.lon (omega (arith, place.lon)) in
    let corner : c.fine_corner.result ≡ fine_corner (fine_row c.args.place.lat) (fine_column c.args.place.lon) =
    rw (c.fine_corner.ensures, c.fine_row.ensures.value, c.fine_column.ensures.value, c.lat.ensures.value, c.lon.ensures.value, lat, lon) refl in
    let id : c.id_bytes.result ≡ id_bytes c.args.id = rw (c.id_bytes.ensures, to_z-of_z w64 c.args.id fits) refl in
    key_parts _ _ _ _ _ corner id
