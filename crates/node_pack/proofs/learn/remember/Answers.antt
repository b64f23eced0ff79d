use Rattle.node_pack.proofs.PlaceMaps.{known_only, known_stays, trues_stay}
use Rattle.node_pack.proofs.learn.remember.Goals as goal

pub returns-in_ok-insert-clause-keeps : goal.returns-in_ok-insert-clause-keeps
returns-in_ok-insert-clause-keeps c = known_stays c.args.places.now c.insert.new.self c.args.key c.args.place c.in_ok-insert.ensures.updates

pub returns-in_ok-insert-clause-trues : goal.returns-in_ok-insert-clause-trues
returns-in_ok-insert-clause-trues c = trues_stay c.args.places.now c.insert.new.self c.args.key c.args.place c.in_ok-insert.ensures.updates

pub returns-in_ok-insert-clause-only : goal.returns-in_ok-insert-clause-only
returns-in_ok-insert-clause-only c = known_only c.args.places.now c.insert.new.self c.args.key c.args.place c.in_ok-insert.ensures.updates
