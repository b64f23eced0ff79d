use Rattle.std.proofs.Common.{◌≡◌, ◌∙◌, [], ap, refl}
use Rattle.std.specs.FinMap.{insert}
use Rattle.osm_desk.specs.Contents.{Contents}
use Rattle.osm_desk.specs.OneConnection.{without}
use Rattle.osm_gate.specs.Terms.{terms_of}
use Rattle.osm_traffic.proofs.OutputLemmas.{some_of}
use Rattle.osm_traffic.proofs.StandLemmas.{hears_err, hears_ok, moved}
use Rattle.osm_traffic.proofs.hearing.hear.Goals as goal

pub returns-in_default-clause-kept : goal.returns-in_default-clause-kept
returns-in_default-clause-kept g c = λ log taken wanted d base deeds s. (
  _,
  moved g.M.Mirror.holds (terms_of c.args.most g.M.Mirror.may_fail) wanted d base _ _ _ _ _ _ _ taken refl
      (some_of (λ bytes. c.put.new.self ≡ insert c.args.outputs.now c.args.number c.apology.result) _ [] c.requires.idle c.put.ensures ∙ ap (insert c.args.outputs.now c.args.number) c.apology.ensures) refl
      (hears_err g.M.Mirror.holds (terms_of c.args.most g.M.Mirror.may_fail) wanted d base deeds log _ _ taken s c.args.number c.args.piece.now c.requires.idle c.requires.cut c.requires.single _ c.requires.open (c.forget.ensures.forgotten ∙ ap (λ (all : Contents _). without all c.args.number) c.in_default.ensures.unchanged)),
)

pub returns-in_default-clause-mirror : goal.returns-in_default-clause-mirror
returns-in_default-clause-mirror g c =
    ap (λ (all : Contents _). all.mirror) (c.forget.ensures.forgotten ∙ ap (λ (all : Contents _). without all c.args.number) c.in_default.ensures.unchanged)

pub returns-clause-kept : goal.returns-clause-kept
returns-clause-kept g c = λ log taken wanted d base deeds s. (
  _,
  moved g.M.Mirror.holds (terms_of c.args.most g.M.Mirror.may_fail) wanted d base _ _ _ _ _ _ _ taken refl
      (some_of (λ bytes. c.put-2.new.self ≡ insert c.args.outputs.now c.args.number c.answers.result) _ [] c.requires.idle c.put-2.ensures ∙ ap (insert c.args.outputs.now c.args.number) c.answers.ensures) refl
      (hears_ok g.M.Mirror.holds (terms_of c.args.most g.M.Mirror.may_fail) wanted d base deeds log _ _ taken s c.args.number c.args.piece.now c.requires.idle c.requires.cut c.requires.single _ c.in-Ok.text c.requires.open c.in-Ok.ensures.responses (c.in-Ok.ensures.open c.requires.open)),
)

pub returns-clause-mirror : goal.returns-clause-mirror
returns-clause-mirror g c = ap (λ (all : Contents _). all.mirror) (c.in-Ok.ensures.open c.requires.open)
