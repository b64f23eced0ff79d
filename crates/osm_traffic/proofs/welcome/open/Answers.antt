use Rattle.std.proofs.Common.{◌≡◌, ◌∙◌, ◌+◌, [], ap, refl}
use Rattle.std.specs.FinMap.{get, insert}
use Rattle.osm_desk.specs.Contents.{Contents}
use Rattle.osm_gate.specs.Serving.{no_memory}
use Rattle.osm_traffic.specs.internal.Standing.{Waiting}
use Rattle.osm_traffic.proofs.MapLemmas.{get-put_same, put-twice}
use Rattle.osm_traffic.proofs.OutputLemmas.{some_of}
use Rattle.osm_traffic.proofs.StandLemmas.{moved, opens_err, opens_not, opens_ok}
use Rattle.osm_traffic.proofs.welcome.open.Goals as goal

pub returns-in_err-add-clause-stands : goal.returns-in_err-add-clause-stands
returns-in_err-add-clause-stands g c = λ terms log wanted d base deeds s. (
  _,
  moved g.M.Mirror.holds terms wanted d base _ _ _ _ _ _ _ (c.args.number + 1) refl c.in_err-add.ensures.err refl (opens_not g.M.Mirror.holds terms wanted d base deeds log _ _ c.args.number s c.requires.room),
)

pub returns-in_default-clause-stands : goal.returns-in_default-clause-stands
returns-in_default-clause-stands g c = λ terms log wanted d base deeds s. (
  _,
  moved g.M.Mirror.holds terms wanted d base _ _ _ _ _ _ _ (c.args.number + 1) refl c.in_ok-add.ensures.ok refl
      (opens_ok g.M.Mirror.holds terms wanted d base deeds log _ _ c.args.number s c.requires.room _ c.in_default.ensures.opened.0 c.in_default.ensures.opened.1),
)

pub returns-in_default-clause-mirror : goal.returns-in_default-clause-mirror
returns-in_default-clause-mirror g c = ap (λ (all : Contents _). all.mirror) c.in_default.ensures.opened.1

pub returns-clause-stands : goal.returns-clause-stands
returns-clause-stands g c = λ terms log wanted d base deeds s. (
  _,
  moved g.M.Mirror.holds terms wanted d base _ _ _ _ _ _ _ (c.args.number + 1) refl
      (some_of (λ bytes. c.put.new.self ≡ insert c.add.new.self c.args.number c.apology.result) _ [] (ap (λ (outputs : Waiting). get outputs c.args.number) c.in_ok-add.ensures.ok ∙ get-put_same c.args.outputs.now c.args.number []) c.put.ensures
      ∙ ap (insert c.add.new.self c.args.number) c.apology.ensures
      ∙ ap (λ (outputs : Waiting). insert outputs c.args.number no_memory) c.in_ok-add.ensures.ok ∙ put-twice c.args.outputs.now c.args.number [] no_memory) refl
      (opens_err g.M.Mirror.holds terms wanted d base deeds log _ _ c.args.number s c.requires.room _ c.in-Err.field-0 c.in-Err.ensures.refused c.in-Err.ensures.unchanged),
)

pub returns-clause-mirror : goal.returns-clause-mirror
returns-clause-mirror g c = ap (λ (all : Contents _). all.mirror) c.in-Err.ensures.unchanged
