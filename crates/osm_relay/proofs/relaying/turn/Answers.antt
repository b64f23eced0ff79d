use Rattle.std.proofs.Common.{◌≡◌, ◌∙◌, ◌∷◌, eq-eqb, refl, sym}
use Rattle.std.specs.Prelude.{Ok, length, true, false}
use Rattle.osm_relay.specs.Events.{calls, invites, waited}
use Rattle.osm_relay.proofs.RelayingLemmas.{free_room}
use Rattle.osm_relay.proofs.relaying.turn.Goals as goal

pub returns-in-Free-clause-stands : goal.returns-in-Free-clause-stands
returns-in-Free-clause-stands g c = λ s before rounds tells budget is trusts room.
    let free = free_room s.wanted c.args.number (length c.args.conversations.now.items) (sym c.in-Free.is ∙ room) in
    let invited : invites (Ok c.args.news) c.args.room ≡ true = λ i. invites (Ok (c.in-Waiting.is i)) (c.in-Free.is i) in
    c.welcome.ensures.stands s (waited c.args.room (Ok c.args.news) ∷ before) rounds budget is trusts invited free.0 free.1

pub returns-in-Ready-clause-stands : goal.returns-in-Ready-clause-stands
returns-in-Ready-clause-stands g c = λ s before rounds tells budget is trusts room.
    let heeded : invites (Ok c.args.news) c.args.room ≡ false = λ i. invites (Ok (c.in-Ready.is i)) c.args.room in
    let told : calls c.in-Ready.number (Ok c.args.news) ≡ true = (λ i. calls c.in-Ready.number (Ok (c.in-Ready.is i))) ∙ eq-eqb c.in-Ready.number c.in-Ready.number refl in
    c.go_on.ensures s (waited c.args.room (Ok c.args.news) ∷ before) rounds c.args.number tells is heeded told

pub returns-in-Silent-clause-stands : goal.returns-in-Silent-clause-stands
returns-in-Silent-clause-stands g c = λ s before rounds tells budget is trusts room.
    let heeded : invites (Ok c.args.news) c.args.room ≡ false = λ i. invites (Ok (c.in-Silent.is i)) c.args.room in
    let told : calls c.in-Silent.number (Ok c.args.news) ≡ true = (λ i. calls c.in-Silent.number (Ok (c.in-Silent.is i))) ∙ eq-eqb c.in-Silent.number c.in-Silent.number refl in
    c.go_on-in-Silent.ensures s (waited c.args.room (Ok c.args.news) ∷ before) rounds c.args.number tells is heeded told
