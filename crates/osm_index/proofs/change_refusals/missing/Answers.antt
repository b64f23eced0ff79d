use Rattle.std.proofs.Common.{sym}
use Rattle.osm_index.proofs.PutNames.{found_there, none_there}
use Rattle.osm_index.proofs.change_refusals.missing.Goals as goal

pub returns-in-Some : goal.returns-in-Some
returns-in-Some c = rw c.in-Delete.is (found_there c.args.set.now _ _ (sym c.in-Some.ensures.found))

pub returns-in-None : goal.returns-in-None
returns-in-None c = (c.in-Delete.is, none_there c.args.set.now _ c.in-None.ensures.set (sym c.in-None.ensures.found))
