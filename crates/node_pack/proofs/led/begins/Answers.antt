use Rattle.std.proofs.Common.{drop, length}
use Rattle.std.proofs.lemmas.Bool.Decides.{Decides-eqb}
use Rattle.std.proofs.lemmas.Slice.Eq.{starts_is}
use Rattle.node_pack.proofs.led.begins.Goals as goal

pub returns : goal.returns
returns c =
    let starts = starts_is Decides-eqb c.args.whole.now c.args.front.now c.starts_with.result c.starts_with.ensures.value in
    ((λ is. (drop (length c.args.front.now) c.args.whole.now, starts.0 is)), (λ begins. starts.1 begins.0 begins.1))
