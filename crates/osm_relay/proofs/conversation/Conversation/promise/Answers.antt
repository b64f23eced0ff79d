use Rattle.std.proofs.Common.{subst}
use Rattle.std.specs.Prelude.{option_map}
use Rattle.osm_relay.specs.Relayed.{IsPromised}
use Rattle.osm_relay.proofs.PromiseLemmas.{promised}
use Rattle.osm_relay.proofs.conversation.Conversation.promise.Goals as goal

pub returns : goal.returns
returns g c =
    let s = c.self.inside in
    subst IsPromised c.self.view_is (λ tells. promised s.terms s.stage (g.W.Wire.log s.client) (option_map g.W.Wire.log s.mirror) (c.self.invariant tells))
