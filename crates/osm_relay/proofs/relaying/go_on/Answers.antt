use Rattle.std.specs.List.{position}
use Rattle.std.proofs.Common.{◌≡◌, ◌∙◌, ◌==◌, List, ap, get_or-set_same, subst, sym}
use Rattle.std.specs.Prelude.{Some}
use Rattle.std.proofs.lemmas.List.Quantifiers.{position-Some}
use Rattle.osm_relay.specs.Events.{left, noted}
use Rattle.osm_relay.specs.Logs.{Log}
use Rattle.osm_relay.specs.Relayed.{Standing}
use Rattle.osm_relay.specs.internal.Relaying.{Moves}
use Rattle.osm_relay.proofs.RelayingLemmas.{goes_on, leaves, old_at}
use Rattle.osm_relay.proofs.relaying.go_on.Goals as goal

pub returns-in-None : goal.returns-in-None
returns-in-None g c = λ s before rounds taken tells is heeded called.
    let there = c.args.conversations.now.items in
    let one = c.take_turn-turn.new.conversation in
    let at : position (λ (x : Standing). x.number == c.args.number) there ≡ Some c.in-Some.at =
    sym (subst (λ (xs : List Standing). Some c.in-Some.at ≡ position (λ (x : Standing). x.number == c.args.number) xs) c.deref.ensures.value c.in-Some.ensures) in
    let first = position-Some (λ (x : Standing). x.number == c.args.number) there c.in-Some.at one at in
    let was = old_at there c.in-Some.at _ one first.0 c.index_mut-conversation.ensures.value in
    goes_on s before rounds taken _ there is _ c.in-Some.at one first.0
    (c.take_turn-turn.ensures.terms ∙ ap (λ (x : Standing). x.terms) was)
    (c.take_turn-turn.ensures.number ∙ ap (λ (x : Standing). x.number) was) heeded (c.note.ensures ∙ c.take_turn-turn.ensures.log)

pub returns-in-Some-ending : goal.returns-in-Some-ending
returns-in-Some-ending g c = λ s before rounds taken tells is heeded called.
    let there = c.args.conversations.now.items in
    let one = c.take_turn-turn.new.conversation in
    let whole = c.in-Some-ending.whole in
    let at : position (λ (x : Standing). x.number == c.args.number) there ≡ Some c.in-Some.at =
    sym (subst (λ (xs : List Standing). Some c.in-Some.at ≡ position (λ (x : Standing). x.number == c.args.number) xs) c.deref.ensures.value c.in-Some.ensures) in
    let first = position-Some (λ (x : Standing). x.number == c.args.number) there c.in-Some.at one at in
    let was = old_at there c.in-Some.at _ one first.0 c.index_mut-conversation.ensures.value in
    let client = c.into_wires-client.ensures.client ∙ ap (λ (x : Standing). x.client) (c.remove.ensures.value ∙ get_or-set_same there c.in-Some.at one c.remove.result first.0) in
    let logged = c.let_go.ensures ∙ ap (λ (w : Log). noted (left c.args.number whole w) (g.N.Network.log c.take_turn-turn.new.network)) client
    ∙ ap (noted (left c.args.number whole one.client)) c.take_turn-turn.ensures.log in
    subst (λ (xs : List Standing). Moves s rounds taken (g.N.Network.log c.let_go.new.self) xs) (sym c.remove.ensures.items)
    (leaves s before rounds taken _ there is _ c.in-Some.at one first.0
    (c.take_turn-turn.ensures.terms ∙ ap (λ (x : Standing). x.terms) was)
    (c.take_turn-turn.ensures.number ∙ ap (λ (x : Standing). x.number) was)
    c.args.number whole called at (sym c.in-Some-ending.ensures) c.take_turn-turn.ensures.promised (c.take_turn-turn.ensures.tells ∙ sym tells) logged)
