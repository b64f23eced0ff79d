use Rattle.node_pack.proofs.PackLemmas.{none_false}
use Rattle.node_pack.proofs.PlaceMaps.{only_known}
use Rattle.node_pack.proofs.learn.first_places.Goals as goal

pub returns-clause-only : goal.returns-clause-only
returns-clause-only c = only_known c.new-places.result c.remember.new.places c.args.root c.new-places.ensures.empty c.remember.ensures.only

pub returns-clause-trues : goal.returns-clause-trues
returns-clause-trues c = λ place_of is. c.remember.ensures.trues place_of (none_false place_of c.new-places.result c.new-places.ensures.empty) is
