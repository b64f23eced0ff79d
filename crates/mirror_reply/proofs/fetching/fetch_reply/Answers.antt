use Rattle.std.proofs.Common.{◌≡◌, ◌∙◌, ◌∷◌, ◌++◌, List, ap, subst, true, ℕ}
use Rattle.std.specs.Prelude.{Some}
use Rattle.mirror_reply.specs.Calls.{noted, opened}
use Rattle.mirror_reply.specs.Requests.{request_text}
use Rattle.mirror_reply.specs.internal.Asking.{IsReady}
use Rattle.mirror_reply.proofs.AskingLemmas.{fetched-by}
use Rattle.mirror_reply.proofs.fetching.fetch_reply.Goals as goal

pub returns-clause-fetched : goal.returns-clause-fetched
returns-clause-fetched g c =
    let request = request_text c.args.host.now c.args.query.now in
    fetched-by (record { request = request; kept = c.receive.new.reply }) (g.D.Dial.log c.args.dial.now) (g.D.Dial.log c.receive.new.dial) c.receive.result λ before is.
    let base : g.D.Dial.log c.open.new.self ≡ Some (opened true ∷ before) =
    c.open.ensures.opened ∙ ap (λ o. noted (opened o) (g.D.Dial.log c.args.dial.now)) c.if-not-open.false ∙ ap (noted (opened true)) is in
    let (calls, log, ready) = c.in_ok-send_whole.ensures before base in
    let whole : c.deref.result.now ≡ request =
    c.deref.ensures.value ∙ c.in_ok-write_request.ensures.written ∙ ap (λ (t : List ℕ). t ++ request) c.new-request.ensures.items in
    c.receive.ensures.received request calls before log (subst (λ (r : List ℕ). IsReady r calls) whole ready)
