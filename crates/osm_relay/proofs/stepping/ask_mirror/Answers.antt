use Rattle.std.proofs.Common.{ap, subst}
use Rattle.std.specs.Prelude.{Option, option_map}
use Rattle.osm_relay.specs.Logs.{Log}
use Rattle.osm_relay.specs.declared.stage.Stage.TheVariants.{Asking}
use Rattle.osm_relay.specs.internal.Stages.{StandsAt}
use Rattle.osm_relay.proofs.StageLemmas.{no_asking}
use Rattle.osm_relay.proofs.stepping.ask_mirror.Goals as goal

pub returns-in-Some : goal.returns-in-Some
returns-in-Some g c = λ terms client tells is.
    c.ask.ensures terms client tells (subst (λ (m : Option Log). StandsAt terms (Asking c.args.search c.args.request) client m) (ap (option_map g.W.Wire.log) c.in-Some.is) is)

pub returns-in-None : goal.returns-in-None
returns-in-None g c = λ terms client tells is.
    no_asking terms c.args.search c.args.request client (option_map g.W.Wire.log c.args.mirror.now) (ap (option_map g.W.Wire.log) c.in-None.is) is
