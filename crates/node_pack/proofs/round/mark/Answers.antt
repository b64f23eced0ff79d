use Rattle.node_pack.specs.declared.place.Place.{Place}
use Rattle.node_pack.specs.internal.Stepping.{IsBroughtAt}
use Rattle.node_pack.proofs.RoundLemmas.{all_to_here, brought_now, brought_stays}
use Rattle.node_pack.proofs.round.mark.Goals as goal

pub loop-place-preserved : goal.loop-place-preserved
loop-place-preserved c =
    let stays = brought_stays c.loop-place.brought c.insert.new.self _ c.in_ok-insert.ensures.updates in
    record {
      grows = λ at is. stays at (c.loop-place.invariant.grows at is);
      marked = all_to_here (λ (place : Place). IsBroughtAt c.loop-place.brought place.at) (λ (place : Place). IsBroughtAt c.insert.new.self place.at) c.args.places.now c.loop-place.place-index
          (record { at = 0; len = 0 }) c.loop-place-test.true (λ place is. stays place.at is) c.loop-place.invariant.marked (brought_now c.loop-place.brought c.insert.new.self _ c.in_ok-insert.ensures.updates);
    }
