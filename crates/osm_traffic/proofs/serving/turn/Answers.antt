use Rattle.std.proofs.Common.{refl}
use Rattle.osm_desk.proofs.shared.FoundLemmas.{none_found}
use Rattle.osm_gate.specs.Terms.{terms_of}
use Rattle.osm_traffic.proofs.StandLemmas.{looked}
use Rattle.osm_traffic.proofs.serving.turn.Goals as goal

pub returns-in-Readable-clause-stands : goal.returns-in-Readable-clause-stands
returns-in-Readable-clause-stands g c = c.listen.ensures.kept c.args.number

pub returns-in-Readable-clause-found : goal.returns-in-Readable-clause-found
returns-in-Readable-clause-found g c = none_found g.M.Mirror.holds (g.L.Lookout.found c.args.lookout.now) (g.L.Lookout.found c.args.lookout.now) c.args.desk.now.mirror c.listen.new.desk.mirror refl c.listen.ensures.mirror

pub returns-in-Writable-clause-stands : goal.returns-in-Writable-clause-stands
returns-in-Writable-clause-stands g c = c.hand.ensures.kept (terms_of c.args.most g.M.Mirror.may_fail) c.args.number

pub returns-in-Writable-clause-found : goal.returns-in-Writable-clause-found
returns-in-Writable-clause-found g c = none_found g.M.Mirror.holds (g.L.Lookout.found c.args.lookout.now) (g.L.Lookout.found c.args.lookout.now) c.args.desk.now.mirror c.hand.new.desk.mirror refl c.hand.ensures.mirror

pub returns-in-Silent-clause-stands : goal.returns-in-Silent-clause-stands
returns-in-Silent-clause-stands g c = c.let_go.ensures.kept (terms_of c.args.most g.M.Mirror.may_fail) c.args.number

pub returns-in-Silent-clause-found : goal.returns-in-Silent-clause-found
returns-in-Silent-clause-found g c = none_found g.M.Mirror.holds (g.L.Lookout.found c.args.lookout.now) (g.L.Lookout.found c.args.lookout.now) c.args.desk.now.mirror c.let_go.new.desk.mirror refl c.let_go.ensures.mirror

pub returns-in-Look-clause-stands : goal.returns-in-Look-clause-stands
returns-in-Look-clause-stands g c = λ wanted d base deeds s. looked g.M.Mirror.holds (terms_of c.args.most g.M.Mirror.may_fail) wanted d base deeds _ _ _ _ c.args.number s c.look.ensures.connections c.look.ensures.in_force

pub returns-in-Look-clause-found : goal.returns-in-Look-clause-found
returns-in-Look-clause-found g c = c.look.ensures.found
