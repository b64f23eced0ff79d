use Rattle.std.proofs.Common.{arith, sym}
use Rattle.std.proofs.lemmas.List.{length-take-le}
use Rattle.mirror_reply.proofs.body.split_body.Goals as goal

pub slice_bounds-root-end : goal.slice_bounds-root-end
slice_bounds-root-end c = sym (length-take-le 32 c.args.body.now (omega arith))
