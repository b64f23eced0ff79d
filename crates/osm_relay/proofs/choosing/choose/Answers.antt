use Rattle.std.proofs.Common.{◌∙◌}
use Rattle.std.specs.Prelude.{option_map}
use Rattle.osm_relay.proofs.DialledLemmas.{dialled}
use Rattle.osm_relay.proofs.choosing.choose.Goals as goal

pub returns-clause-stage : goal.returns-clause-stage
returns-clause-stage g c = λ terms client tells is.
    dialled g.W.Wire.log c.dial-wire.result g.W.Wire.tells tells c.dial-wire.ensures.fresh terms client c.dialled-stage.result
    (λ open_is. c.dialled-stage.ensures.asking terms c.in-Some.host.now client (option_map g.W.Wire.log c.args.mirror.now) (c.is_some.ensures ∙ open_is) is c.in-Some.ensures c.in-Ok.ensures)
    (λ open_is. c.dialled-stage.ensures.choosing terms client (option_map g.W.Wire.log c.args.mirror.now) (c.is_some.ensures ∙ open_is) is)
