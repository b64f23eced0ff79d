use Rattle.std.proofs.Common.{sym, subst}
use Rattle.std.specs.Prelude.{Some}
use Rattle.osm_relay.specs.Logs.{Log}
use Rattle.osm_relay.specs.declared.stage.Search.{Search}
use Rattle.osm_relay.specs.declared.stage.Stage.TheVariants.{Choosing, Listening}
use Rattle.osm_relay.specs.internal.Stages.{StandsAt}
use Rattle.osm_relay.proofs.StageLemmas.{listening_silent}
use Rattle.osm_relay.proofs.listening.listen.Goals as goal

pub returns-in-Got : goal.returns-in-Got
returns-in-Got g c = λ client tells is.
    subst (λ (l : Log). StandsAt c.args.terms.now c.listen_piece.result client (Some l)) (sym (c.in-Got.ensures.log tells)) (c.listen_piece.ensures client (g.W.Wire.log c.args.mirror.now) is)

pub returns-in-Later : goal.returns-in-Later
returns-in-Later g c = λ client tells is.
    subst (λ (l : Log). StandsAt c.args.terms.now (Listening c.args.search c.args.reply) client (Some l)) (sym (c.in-Later.ensures.log tells)) is

pub returns-in-Ended : goal.returns-in-Ended
returns-in-Ended g c = λ client tells is.
    subst (λ (l : Log). StandsAt c.args.terms.now c.listen_end.result client (Some l)) (sym (c.in-Ended.ensures.log tells)) (c.listen_end.ensures client (g.W.Wire.log c.args.mirror.now) is)

pub returns-in-Gone : goal.returns-in-Gone
returns-in-Gone g c = λ client tells is.
    let old = g.W.Wire.log c.args.mirror.now in
    subst (λ (l : Log). StandsAt c.args.terms.now (Choosing c.failed.result) client (Some l)) (sym (c.in-Gone.ensures.log tells))
    (subst (λ (s : Search). StandsAt c.args.terms.now (Choosing s) client (Some old)) (sym c.failed.ensures) (listening_silent c.args.terms.now c.args.search c.args.reply client old is))
