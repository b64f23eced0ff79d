use Rattle.std.proofs.Common.{subst}
use Rattle.std.specs.Prelude.{option_map}
use Rattle.osm_relay.specs.declared.stage.Stage.{Stage}
use Rattle.osm_relay.specs.internal.Stages.{StandsAt}
use Rattle.osm_relay.proofs.stepping.step_on.Goals as goal

pub returns-in-Hearing-clause-stage : goal.returns-in-Hearing-clause-stage
returns-in-Hearing-clause-stage g c = λ tells is.
    let client = g.W.Wire.log c.args.client.now in
    let mirror = option_map g.W.Wire.log c.args.mirror.now in
    c.receive.ensures c.args.terms.now mirror tells (subst (λ (s : Stage). StandsAt c.args.terms.now s client mirror) c.in-Hearing.is is)

pub returns-in-Choosing-clause-stage : goal.returns-in-Choosing-clause-stage
returns-in-Choosing-clause-stage g c = λ tells is.
    let client = g.W.Wire.log c.args.client.now in
    let mirror = option_map g.W.Wire.log c.args.mirror.now in
    c.choose.ensures.stage c.args.terms.now client tells (subst (λ (s : Stage). StandsAt c.args.terms.now s client mirror) c.in-Choosing.is is)

pub returns-in-Asking-clause-stage : goal.returns-in-Asking-clause-stage
returns-in-Asking-clause-stage g c = λ tells is.
    let client = g.W.Wire.log c.args.client.now in
    let mirror = option_map g.W.Wire.log c.args.mirror.now in
    c.ask_mirror.ensures c.args.terms.now client tells (subst (λ (s : Stage). StandsAt c.args.terms.now s client mirror) c.in-Asking.is is)

pub returns-in-Listening-clause-stage : goal.returns-in-Listening-clause-stage
returns-in-Listening-clause-stage g c = λ tells is.
    let client = g.W.Wire.log c.args.client.now in
    let mirror = option_map g.W.Wire.log c.args.mirror.now in
    c.listen_to.ensures client tells (subst (λ (s : Stage). StandsAt c.args.terms.now s client mirror) c.in-Listening.is is)

pub returns-in-Answering-clause-stage : goal.returns-in-Answering-clause-stage
returns-in-Answering-clause-stage g c = λ tells is.
    let client = g.W.Wire.log c.args.client.now in
    let mirror = option_map g.W.Wire.log c.args.mirror.now in
    c.answer.ensures c.args.terms.now mirror tells (subst (λ (s : Stage). StandsAt c.args.terms.now s client mirror) c.in-Answering.is is)

pub returns-in-Over-clause-stage : goal.returns-in-Over-clause-stage
returns-in-Over-clause-stage g c = λ tells is.
    let client = g.W.Wire.log c.args.client.now in
    let mirror = option_map g.W.Wire.log c.args.mirror.now in
    subst (λ (s : Stage). StandsAt c.args.terms.now s client mirror) c.in-Over.is is
