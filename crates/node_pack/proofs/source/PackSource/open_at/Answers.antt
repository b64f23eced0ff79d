use Rattle.std.proofs.Common.{refl}
use Rattle.node_pack.proofs.source.PackSource.open_at.Goals as goal

pub returns-clause-over : goal.returns-clause-over
returns-clause-over g c = λ bytes place_of nodes reads are is near. (
  record {
    bytes = bytes;
    is_read = c.size.ensures.stays bytes reads;
    are = are;
    rooted = refl;
    manifest = is;
    near = near;
    size = c.in_ok-size.ensures.size bytes reads;
    trues = c.in_ok-places.ensures.trues place_of is;
  },
  c.in_ok-places.ensures.known near,
)
