use Rattle.std.proofs.Common.{refl}
use Rattle.osm_gate.specs.Terms.{terms_of}
use Rattle.osm_traffic.proofs.StandLemmas.{moved}
use Rattle.osm_traffic.proofs.hearing.listen.Goals as goal

pub returns-in-Got-clause-kept : goal.returns-in-Got-clause-kept
returns-in-Got-clause-kept g c = λ taken wanted d base deeds s.
    let (more, heard) = c.hear.ensures.kept (g.T.Traffic.log c.args.traffic.now) taken wanted d base deeds s in
    c.hand.ensures.kept (terms_of c.args.most g.M.Mirror.may_fail) taken wanted d base more (moved g.M.Mirror.holds (terms_of c.args.most g.M.Mirror.may_fail) wanted d base more _ _ _ _ _ _ taken c.in-Got.ensures.read.3 refl refl heard)

pub returns-in-Ended-clause-kept : goal.returns-in-Ended-clause-kept
returns-in-Ended-clause-kept g c = λ taken wanted d base deeds s. c.part.ensures.kept (terms_of c.args.most g.M.Mirror.may_fail) taken wanted d base deeds (moved g.M.Mirror.holds (terms_of c.args.most g.M.Mirror.may_fail) wanted d base deeds _ _ _ _ _ _ taken c.in-Ended.ensures.read refl refl s)

pub returns-in-Gone-clause-kept : goal.returns-in-Gone-clause-kept
returns-in-Gone-clause-kept g c = λ taken wanted d base deeds s. c.break_off.ensures.kept (terms_of c.args.most g.M.Mirror.may_fail) taken wanted d base deeds (moved g.M.Mirror.holds (terms_of c.args.most g.M.Mirror.may_fail) wanted d base deeds _ _ _ _ _ _ taken c.in-Gone.ensures.read refl refl s)
