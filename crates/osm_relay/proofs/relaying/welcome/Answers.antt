use Rattle.std.proofs.Common.{◌≡◌, ◌∙◌, ◌++◌, ◌∷◌, ◌+◌, List, [], ap, rules, subst, sym}
use Rattle.std.specs.Prelude.{Ok}
use Rattle.osm_relay.specs.Events.{noted, taken_as}
use Rattle.osm_relay.specs.Relayed.{Standing}
use Rattle.osm_relay.specs.internal.Relaying.{Moves}
use Rattle.osm_relay.proofs.RelayingLemmas.{no_memory, none_there, one_more, refused, stops_told, trusted_by}
use Rattle.osm_relay.proofs.relaying.welcome.Goals as goal

pub returns-in_err-client-clause-stands : goal.returns-in_err-client-clause-stands
returns-in_err-client-clause-stands g c = λ s before rounds budget is trusts invited few room.
    stops_told s rounds c.args.number _ _ c.from_residual.result c.in_err-client.field-0.0 c.from_residual.ensures.1
    (refused s before rounds c.args.number _ c.args.conversations.now.items is _ invited few room c.in_err-client.field-0.0 c.in_err-client.ensures.taken)

pub returns-in_default-clause-stands : goal.returns-in_default-clause-stands
returns-in_default-clause-stands g c = λ s before rounds budget is trusts invited few room.
    let here = subst (λ o. g.N.Network.log c.take.new.self ≡ noted (taken_as c.args.number (Ok o)) (g.N.Network.log c.args.network.now)) c.in_default.is c.in_ok-client.ensures.taken in
    none_there s before rounds c.args.number _ c.args.conversations.now.items is _ invited few room here

pub returns-then-is_err-clause-stands : goal.returns-then-is_err-clause-stands
returns-then-is_err-clause-stands g c = λ s before rounds budget is trusts invited few room.
    let here = subst (λ o. g.N.Network.log c.take.new.self ≡ noted (taken_as c.args.number (Ok o)) (g.N.Network.log c.args.network.now)) c.in-Some.is c.in_ok-client.ensures.taken in
    no_memory s before rounds c.args.number _ c.args.conversations.now.items is _ invited few room here

pub returns-clause-stands : goal.returns-clause-stands
returns-clause-stands g c = λ s before rounds budget is trusts invited few room.
    let here = subst (λ o. g.N.Network.log c.take.new.self ≡ noted (taken_as c.args.number (Ok o)) (g.N.Network.log c.args.network.now)) c.in-Some.is c.in_ok-client.ensures.taken in
    let items : c.push.new.self.items ≡ c.args.conversations.now.items ++ c.new.result ∷ [] = search rules in
    let trusted = trusted_by s.trusts s.most c.new.result _ (ap (λ (x : Standing). x.terms) c.new.ensures) (trusts _ c.root-root.ensures.told) (sym budget) in
    subst (λ (xs : List Standing). Moves s rounds (c.args.number + 1) (g.N.Network.log c.note.new.self) xs) (sym items)
    (one_more s before rounds c.args.number _ c.args.conversations.now.items is _ invited few room c.new.result (ap (λ (x : Standing). x.number) c.new.ensures) trusted (c.note.ensures ∙ here))
