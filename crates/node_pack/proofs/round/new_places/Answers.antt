use Rattle.std.proofs.lemmas.List.Filters.{dedup_is}
use Rattle.node_pack.proofs.RoundLemmas.{tidied}
use Rattle.node_pack.proofs.round.new_places.Goals as goal

pub returns : goal.returns
returns c =
    rw c.in_ok-places.ensures at (tidied _ _ _ c.sort_unstable.ensures.permutation c.sort_unstable.ensures.sorted (dedup_is _ _ _ c.dedup.ensures.filtered))
