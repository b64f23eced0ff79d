use Rattle.std.proofs.Common.{refl}
use Rattle.osm_keys.specs.Keys.{id_bytes}
use Rattle.osm_keys.proofs.keys.back_key.Goals as goal

pub returns : goal.returns
unfolding id_bytes
returns c = rw (c.reference_key.ensures, c.reference_key-2.ensures) refl
