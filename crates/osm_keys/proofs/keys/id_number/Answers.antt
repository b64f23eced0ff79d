use Rattle.std.proofs.Common.{FitsSigned, w64, rules}
use Rattle.std.proofs.lemmas.Int.{to_z-of_z}
use Rattle.osm_keys.proofs.Ids.{number_is}
use Rattle.osm_keys.proofs.keys.id_number.Goals as goal

pub returns : goal.returns
returns c =
    let fits : FitsSigned w64 c.args.id = search rules in
    rw (c.cast_unsigned.ensures, to_z-of_z w64 c.args.id fits) (number_is c.args.id fits)
