use Rattle.std.proofs.Common.{FitsSigned, w64, rules}
use Rattle.std.proofs.lemmas.Int.{to_z-of_z}
use Rattle.osm_keys.proofs.ReadLemmas.{id_read}
use Rattle.light_keys.proofs.read_fine.id_of.Goals as goal

pub returns : goal.returns
returns c =
    let fits : FitsSigned w64 c.cast_signed.result = search rules in
    rw (to_z-of_z w64 c.cast_signed.result fits) (id_read c.args.bytes.now c.from_be_bytes.result c.cast_signed.result c.told-bytes c.fits-bytes fits c.from_be_bytes.ensures c.cast_signed.ensures)
