use Rattle.std.proofs.Common.{◌≡◌, IfOk, subst, sym}
use Rattle.http_messages.specs.Decisions.{asked_of}
use Rattle.http_messages.specs.Requests.{Decided, asked, refused}
use Rattle.osm_relay.specs.Errands.{Errand, errand_of, unmet}
use Rattle.osm_relay.specs.internal.Finding.{Meets}
use Rattle.osm_relay.proofs.FindingLemmas.{found_of}
use Rattle.osm_relay.proofs.HeardLemmas.{open-body, open-head}
use Rattle.osm_relay.proofs.finding.find.Goals as goal

pub returns-in-HeadOpen : goal.returns-in-HeadOpen
returns-in-HeadOpen c = (sym c.in-HeadOpen.ensures.decided, open-head c.args.bytes.now c.requires.begins c.in-HeadOpen.ensures.open)

pub returns-in-BodyOpen : goal.returns-in-BodyOpen
returns-in-BodyOpen c =
    (sym c.in-BodyOpen.ensures.decided, open-body c.args.bytes.now c.in-BodyOpen.needed c.requires.begins c.in-BodyOpen.ensures.missing c.in-BodyOpen.ensures.waits)

pub returns-in-Refused : goal.returns-in-Refused
returns-in-Refused c =
    let d : Decided = record { request = refused c.in-Refused.refusal; used = c.in-Refused.used } in
    let same : unmet c.status.result c.text.result.now ≡ errand_of d.request = λ i. unmet (c.status.ensures i) (c.text.ensures i) in
    found_of c.args.bytes.now d (sym c.in-Refused.ensures.decided) _ (subst (λ (e : Errand). IfOk c.refuse.result (Meets e)) same c.refuse.ensures)

pub returns-in-Complete : goal.returns-in-Complete
returns-in-Complete c =
    let d : Decided = record { request = asked (asked_of c.in-Complete.request); used = c.in-Complete.used } in
    found_of c.args.bytes.now d (sym c.in-Complete.ensures.decided) _ c.meet.ensures
