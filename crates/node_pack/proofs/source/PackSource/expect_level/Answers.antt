use Rattle.node_pack.specs.declared.place.Place.{Place}
use Rattle.node_pack.specs.internal.Stepping.{IsBroughtAt}
use Rattle.node_pack.proofs.RoundLemmas.{each_found}
use Rattle.node_pack.proofs.source.PackSource.expect_level.Goals as goal

pub returns-clause-marked : goal.returns-clause-marked
returns-clause-marked g c =
    each_found (λ (place : Place). IsBroughtAt c.mark.new.brought place.at) _ c.in_ok-places.places.items _ c.in_ok-places.ensures c.as_slice-2.ensures.value c.in_ok-mark.ensures.marked
