use Rattle.std.proofs.lemmas.List.Filters.{dedup_is}
use Rattle.osm_query_web.proofs.WantedLemmas.{tidied}
use Rattle.osm_query_web.proofs.missing.wanted_of.Goals as goal

pub returns : goal.returns
returns c spans are =
    tidied _ _ _ _ _ _ (c.in_ok-wanted.ensures spans are) c.sort_unstable.ensures.permutation c.sort_unstable.ensures.sorted (dedup_is _ _ _ c.dedup.ensures.filtered)
