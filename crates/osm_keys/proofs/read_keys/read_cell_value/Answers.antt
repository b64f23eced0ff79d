use Rattle.std.proofs.Common.{FitsSigned, w32, ℕ, List, length, to_z, ap, ◌∙◌, arith, rules}
use Rattle.std.specs.Int.{from_be_bytes}
use Rattle.std.proofs.lemmas.Int.{to_z-of_z}
use Rattle.osm_keys.proofs.ReadLemmas.{lat_is, location_len, location_read, lon_is}
use Rattle.osm_keys.proofs.read_keys.read_cell_value.Goals as goal

pub returns-in_err-lon-clause-none : goal.returns-in_err-lon-clause-none
returns-in_err-lon-clause-none c = λ _ place is e.
    let few = c.in_err-lon.ensures.cases in
    let l = ap length e in
    let m = location_len place in
    omega (arith, few, l, m)

pub returns-in_err-as_array-clause-none : goal.returns-in_err-as_array-clause-none
returns-in_err-as_array-clause-none c = λ _ place is e.
    let l = ap length e in
    let m = location_len place in
    let n = c.in_ok-lon.ensures.cases.2 in
    c.in_err-as_array.ensures.cases (omega (arith, l, m, n))

pub returns-then-not-is_place-clause-none : goal.returns-then-not-is_place-clause-none
returns-then-not-is_place-clause-none c = λ _ place is e.
    let lon = c.from_be_bytes-lon.ensures ∙ ap (λ (l : List ℕ). to_z w32 (from_be_bytes w32 l)) c.in_ok-lon.ensures.cases.0 ∙ lon_is c.args.value.now place is e in
    let lat = c.from_be_bytes-lat.ensures ∙ ap (λ (l : List ℕ). to_z w32 (from_be_bytes w32 l)) (c.in_ok-as_array.ensures.cases.same ∙ c.in_ok-lon.ensures.cases.1) ∙ lat_is c.args.value.now place is e in
    let fits_lon : FitsSigned w32 c.from_be_bytes-lon.result = search rules in
    let fits_lat : FitsSigned w32 c.from_be_bytes-lat.result = search rules in
    let same_lon = to_z-of_z w32 c.from_be_bytes-lon.result fits_lon ∙ lon in
    let same_lat = to_z-of_z w32 c.from_be_bytes-lat.result fits_lat ∙ lat in
    let found = c.is_place.ensures.1 (record { lon = rw same_lon is.lon; lat = rw same_lat is.lat }) in
    let isnt = c.if-not-is_place.true in
    cc

pub returns-clause-some : goal.returns-clause-some
returns-clause-some c =
    let parts = c.in_ok-lon.ensures.cases in
    let last = c.in_ok-as_array.ensures.cases in
    let fits_lon : FitsSigned w32 c.from_be_bytes-lon.result = search rules in
    let fits_lat : FitsSigned w32 c.from_be_bytes-lat.result = search rules in
    let read = location_read c.args.value.now c.in_ok-lon.lon.now c.in_ok-lon.lat.now c.from_be_bytes-lon.result c.from_be_bytes-lat.result (λ i. omega (arith, c.type_inv.value i)) parts.0 parts.1 parts.2 last.long
    c.from_be_bytes-lon.ensures (c.from_be_bytes-lat.ensures ∙ ap (λ (l : List ℕ). to_z w32 (from_be_bytes w32 l)) last.same) in
    rw (c.new.ensures, to_z-of_z w32 c.from_be_bytes-lon.result fits_lon, to_z-of_z w32 c.from_be_bytes-lat.result fits_lat) read
