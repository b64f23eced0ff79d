use Rattle.std.proofs.Common.{ap, refl}
use Rattle.std.specs.FinMap.{get}
use Rattle.osm_desk.specs.Contents.{Contents}
use Rattle.osm_traffic.proofs.StandLemmas.{moved, parts, some_by}
use Rattle.osm_traffic.proofs.leaving.part.Goals as goal

pub returns-clause-kept : goal.returns-clause-kept
returns-clause-kept g c = λ terms taken wanted d base deeds s.
    let (bytes, some) = some_by (get c.args.outputs.now c.args.number) c.requires.known in
    let (more, t) = parts g.M.Mirror.holds terms wanted d base deeds _ _ _ _ taken c.args.number c.end.result c.args.whole bytes some c.requires.idle c.end.ensures s in
    (more, moved g.M.Mirror.holds terms wanted d base more _ _ _ _ _ _ taken refl c.forget.ensures c.forget-2.ensures.forgotten t)

pub returns-clause-mirror : goal.returns-clause-mirror
returns-clause-mirror g c = ap (λ (all : Contents _). all.mirror) c.forget-2.ensures.forgotten
