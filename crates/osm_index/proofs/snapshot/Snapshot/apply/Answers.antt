use Rattle.osm_index.proofs.TakenOver.{taken_over, update_made}
use Rattle.osm_index.proofs.snapshot.Snapshot.apply.Goals as goal

pub take_over-requires : goal.take_over-requires
take_over-requires c = record {
  listed = c.in_ok-update.ensures.listed;
  made = λ p held. update_made p c.args.changes.now c.in_ok-update.update (c.in_ok-update.ensures.made p held);
}

pub returns-clause-applied : goal.returns-clause-applied
returns-clause-applied c = λ p held.
    taken_over p c.args.changes.now c.in_ok-update.update c.take_over.new.self c.take_over.result (c.in_ok-update.ensures.made p held) (λ q is. c.take_over.ensures.held p q held is)
