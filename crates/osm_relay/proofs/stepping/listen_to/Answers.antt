use Rattle.std.proofs.Common.{ap, subst}
use Rattle.std.specs.Prelude.{Option, option_map}
use Rattle.osm_relay.specs.Logs.{Log}
use Rattle.osm_relay.specs.declared.stage.Stage.TheVariants.{Listening}
use Rattle.osm_relay.specs.internal.Stages.{StandsAt}
use Rattle.osm_relay.proofs.StageLemmas.{no_listening}
use Rattle.osm_relay.proofs.stepping.listen_to.Goals as goal

pub returns-in-Some : goal.returns-in-Some
returns-in-Some g c = λ client tells is.
    c.listen.ensures client tells (subst (λ (m : Option Log). StandsAt c.args.terms.now (Listening c.args.search c.args.reply) client m) (ap (option_map g.W.Wire.log) c.in-Some.is) is)

pub returns-in-None : goal.returns-in-None
returns-in-None g c = λ client tells is.
    no_listening c.args.terms.now c.args.search c.args.reply client (option_map g.W.Wire.log c.args.mirror.now) (ap (option_map g.W.Wire.log) c.in-None.is) is
