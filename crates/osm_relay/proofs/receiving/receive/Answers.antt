use Rattle.std.proofs.Common.{false, sym, subst}
use Rattle.osm_relay.specs.Logs.{Log}
use Rattle.osm_relay.specs.declared.stage.Stage.{Stage}
use Rattle.osm_relay.specs.declared.stage.Stage.TheVariants.{Hearing, Over}
use Rattle.osm_relay.specs.internal.Stages.{StandsAt}
use Rattle.osm_relay.proofs.StageLemmas.{hearing_gone}
use Rattle.osm_relay.proofs.receiving.receive.Goals as goal

pub returns-in-Got : goal.returns-in-Got
returns-in-Got g c = λ terms mirror tells is.
    subst (λ (l : Log). StandsAt terms c.receive_piece.result l mirror) (sym (c.in-Got.ensures.log tells)) (c.receive_piece.ensures terms (g.W.Wire.log c.args.client.now) mirror is)

pub returns-in-Later : goal.returns-in-Later
returns-in-Later g c = λ terms mirror tells is.
    subst (λ (l : Log). StandsAt terms (Hearing c.args.heard) l mirror) (sym (c.in-Later.ensures.log tells)) is

pub returns-in-Ended : goal.returns-in-Ended
returns-in-Ended g c = λ terms mirror tells is.
    subst (λ (s : Stage). StandsAt terms s (g.W.Wire.log c.read.new.self) mirror) (sym c.over.ensures)
    (subst (λ (l : Log). StandsAt terms (Over false) l mirror) (sym (c.in-Ended.ensures.log tells)) (hearing_gone terms c.args.heard (g.W.Wire.log c.args.client.now) mirror is))

pub returns-in-Gone : goal.returns-in-Gone
returns-in-Gone g c = λ terms mirror tells is.
    subst (λ (s : Stage). StandsAt terms s (g.W.Wire.log c.read.new.self) mirror) (sym c.over-in-Gone.ensures)
    (subst (λ (l : Log). StandsAt terms (Over false) l mirror) (sym (c.in-Gone.ensures.log tells)) (hearing_gone terms c.args.heard (g.W.Wire.log c.args.client.now) mirror is))
