use Rattle.std.proofs.Common.{◌∙◌, sym, refl}
use Rattle.http_messages.specs.Requests.{Decided, asked, refused}
use Rattle.http_messages.specs.ResponseTexts.{response_text}
use Rattle.osm_gate.specs.Responses.{refused_response}
use Rattle.http_messages.specs.Decisions.{asked_of}
use Rattle.osm_gate.specs.Terms.{terms_of}
use Rattle.osm_gate.proofs.RespondingLemmas.{responds-one}
use Rattle.osm_gate.proofs.StepLemmas.{open-body, open-head}
use Rattle.osm_gate.proofs.requests.respond_to_first.Goals as goal

pub returns-then-branch-clause-step : goal.returns-then-branch-clause-step
returns-then-branch-clause-step g c =
    let a = asked_of c.in-Complete.request in
    let d : Decided = record { request = asked a; used = c.in-Complete.used } in (
      d,
      sym c.in-Complete.ensures.decided,
      sym c.in_ok-respond-in-Complete.ensures.closes ∙ c.if-branch.true,
      λ p holds. let (r, is, added) = c.in_ok-respond-in-Complete.ensures.text p holds in
          (response_text r, responds-one (terms_of c.args.most g.M.Mirror.may_fail) p (asked a) (response_text r) (r, is, refl), added),
    )

pub returns-else-branch-clause-step : goal.returns-else-branch-clause-step
returns-else-branch-clause-step g c =
    let a = asked_of c.in-Complete.request in
    let d : Decided = record { request = asked a; used = c.in-Complete.used } in (
      d,
      sym c.in-Complete.ensures.decided,
      sym c.in_ok-respond-in-Complete.ensures.closes ∙ c.if-branch.false,
      λ p holds. let (r, is, added) = c.in_ok-respond-in-Complete.ensures.text p holds in
          (response_text r, responds-one (terms_of c.args.most g.M.Mirror.may_fail) p (asked a) (response_text r) (r, is, refl), added),
      refl,
    )

pub returns-in-HeadOpen-clause-step : goal.returns-in-HeadOpen-clause-step
returns-in-HeadOpen-clause-step g c =
    (sym c.in-HeadOpen.ensures.decided, open-head c.args.bytes.now c.requires.begins c.in-HeadOpen.ensures.open (sym c.in-HeadOpen.ensures.decided), refl)

pub returns-in-BodyOpen-clause-step : goal.returns-in-BodyOpen-clause-step
returns-in-BodyOpen-clause-step g c = (
  sym c.in-BodyOpen.ensures.decided,
  open-body c.args.bytes.now c.in-BodyOpen.needed c.requires.begins c.in-BodyOpen.ensures.missing (sym c.in-BodyOpen.ensures.decided) c.in-BodyOpen.ensures.waits,
  refl,
)

pub returns-in_ok-refuse-in-Refused-clause-step : goal.returns-in_ok-refuse-in-Refused-clause-step
returns-in_ok-refuse-in-Refused-clause-step g c =
    let d : Decided = record { request = refused c.in-Refused.refusal; used = c.in-Refused.used } in
    let text = response_text (refused_response c.in-Refused.refusal) in (
      d,
      sym c.in-Refused.ensures.decided,
      refl,
      λ p holds. (text, responds-one (terms_of c.args.most g.M.Mirror.may_fail) p (refused c.in-Refused.refusal) text refl, c.in_ok-refuse-in-Refused.ensures),
    )
