use Rattle.std.proofs.Common.{sym, subst}
use Rattle.std.specs.Prelude.{option_map}
use Rattle.osm_relay.specs.declared.stage.Stage.{Stage}
use Rattle.osm_relay.specs.internal.Stages.{StandsAt}
use Rattle.osm_relay.proofs.PromiseLemmas.{promised}
use Rattle.osm_relay.proofs.conversation.Conversation.lose_patience.Goals as goal

pub returns-clause-promised : goal.returns-clause-promised
returns-clause-promised g c = λ tells.
    let s = c.self.inside in
    let client = g.W.Wire.log s.client in
    let mirror = option_map g.W.Wire.log s.mirror in
    let old = subst (λ (stage : Stage). StandsAt s.terms stage client mirror) (sym c.replace-stage.ensures.value) (c.self.invariant tells) in
    promised s.terms c.impatient.result client mirror (c.impatient.ensures s.terms client mirror old)
