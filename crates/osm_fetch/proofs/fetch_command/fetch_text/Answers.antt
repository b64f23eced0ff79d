use Rattle.std.proofs.Common.{◌≡◌, ◌≢◌, ◌∙◌, IfErr, List, [], Err, ap, inl, refl, subst, sym, ℕ}
use Rattle.osm_check.specs.Telling.{IsProvedIn}
use Rattle.mirror_reply.specs.Calls.{Call, bytes_received}
use Rattle.mirror_reply.specs.Replies.{HasReply}
use Rattle.mirror_reply.proofs.shared.SpelledLemmas.{none_replied, reply-unique}
use Rattle.osm_fetch.specs.Fetching.{Calls, Explains, Fetching, IsExcused, IsOutside}
use Rattle.osm_fetch.specs.internal.Fetched.{HasCalled}
use Rattle.osm_fetch.specs.declared.not_fetched.NotFetched.TheVariants.{Device}
use Rattle.osm_fetch.proofs.FetchedLemmas.{called, fetched_at, same_calls, shown_calls, shown_excused, shown_limited, shown_no_device, taken_all, uncalled, unfetched, unfetched_outside, unread}
use Rattle.osm_fetch.proofs.fetch_command.fetch_text.Goals as goal

pub returns-in-Err-clause-called : goal.returns-in-Err-clause-called
returns-in-Err-clause-called g c =
    let f : Fetching = record { wanted = record { query = c.args.query.now; root = c.args.root.now.0; form = c.args.form; most = c.args.max_work }; host = c.args.host.now; limit = c.args.max_size } in
    subst (λ q. HasCalled f (g.D.Dial.log c.args.dial.now) (g.D.Dial.log c.args.dial.now) (Err q)) (sym c.fault_of_query.ensures)
    (uncalled f (g.D.Dial.log c.args.dial.now) _ (unread f c.in-Err.fault c.in-Err.ensures.refused))

pub returns-then-not-is_host-clause-called : goal.returns-then-not-is_host-clause-called
returns-then-not-is_host-clause-called g c =
    let f : Fetching = record { wanted = record { query = c.args.query.now; root = c.args.root.now.0; form = c.args.form; most = c.args.max_work }; host = c.args.host.now; limit = c.args.max_size } in
    uncalled f (g.D.Dial.log c.args.dial.now) _ ((_, c.in_default.ensures.read), inl (refl, sym c.is_host.ensures ∙ c.if-not-is_host.true))

pub returns-then-not-is_host-clause-honest : goal.returns-then-not-is_host-clause-honest
returns-then-not-is_host-clause-honest g c = λ p text named answer proof before calls published root proved is new reply.
    let none : [] ≡ calls = same_calls (g.D.Dial.log c.args.dial.now) [] calls before is new in
    absurd (none_replied c.args.max_size named answer proof (subst (λ (k : List Call). HasReply c.args.max_size (bytes_received k) named answer proof) (sym none) reply))

pub returns-in-Err-fetch_reply-clause-called : goal.returns-in-Err-fetch_reply-clause-called
returns-in-Err-fetch_reply-clause-called g c =
    let f : Fetching = record { wanted = record { query = c.args.query.now; root = c.args.root.now.0; form = c.args.form; most = c.args.max_work }; host = c.args.host.now; limit = c.args.max_size } in
    let limit : c.fetch_reply.new.reply.limit ≡ c.args.max_size = c.fetch_reply.ensures.limit ∙ ap (λ k. k.limit) c.new-reply.ensures in
    called f (g.D.Dial.log c.args.dial.now) (g.D.Dial.log c.fetch_reply.new.dial) _ λ before is.
    let (calls, new, ends) = fetched_at _ _ _ _ before c.in-Err-fetch_reply.ensures.fetched is in (
      calls,
      new,
      subst (λ q. Explains f calls q) (sym c.fault_of_fetch.ensures)
          (unfetched f c.fetch_reply.new.reply limit (_, c.in_default.ensures.read) calls c.in-Err-fetch_reply.fault ends),
    )

pub returns-in-Err-fetch_reply-clause-honest : goal.returns-in-Err-fetch_reply-clause-honest
returns-in-Err-fetch_reply-clause-honest g c = λ p text named answer proof before calls published root proved is new reply.
    let limit : c.fetch_reply.new.reply.limit ≡ c.args.max_size = c.fetch_reply.ensures.limit ∙ ap (λ k. k.limit) c.new-reply.ensures in
    let (made, log, ends) = fetched_at _ _ _ _ before c.in-Err-fetch_reply.ensures.fetched is in
    let same : calls ≡ made = same_calls (g.D.Dial.log c.fetch_reply.new.dial) calls made before new log in
    let held = subst (λ (l : ℕ). HasReply l (bytes_received made) named answer proof) (sym limit)
    (subst (λ (k : List Call). HasReply c.args.max_size (bytes_received k) named answer proof) same reply) in
    inl (subst IsOutside (sym c.fault_of_fetch.ensures) (unfetched_outside _ made c.in-Err-fetch_reply.fault named answer proof ends held))

pub unreachable-requires : goal.unreachable-requires
unreachable-requires g c =
    let (root, answer, proof, reply) = c.in_default-fetch_reply.ensures.whole in
    c.in_default-parts.ensures.none c.fetch_reply.new.reply.bytes (taken_all c.fetch_reply.new.reply) root answer proof reply

pub returns-clause-called : goal.returns-clause-called
returns-clause-called g c =
    let f : Fetching = record { wanted = record { query = c.args.query.now; root = c.args.root.now.0; form = c.args.form; most = c.args.max_work }; host = c.args.host.now; limit = c.args.max_size } in
    let limit : c.fetch_reply.new.reply.limit ≡ c.args.max_size = c.fetch_reply.ensures.limit ∙ ap (λ k. k.limit) c.new-reply.ensures in
    called f (g.D.Dial.log c.args.dial.now) (g.D.Dial.log c.fetch_reply.new.dial) _ λ before is.
    let (calls, new, ends) = fetched_at _ _ _ _ before c.in_default-fetch_reply.ensures.fetched is in
    let reply = subst (λ (l : ℕ). HasReply l (bytes_received calls) c.in-Some.parts.root.now c.in-Some.parts.answer.now c.in-Some.parts.proof.now) limit
    (c.in-Some.ensures.some (bytes_received calls) ends.2) in (
      calls,
      new,
      subst (λ r. Calls f calls r) (sym c.result_of.ensures)
          (shown_calls f calls _ _ _ (_, c.in_default.ensures.read) ends.0 reply c.in_ok-shown.shown c.in_ok-shown.ensures.rightly),
    )

pub returns-clause-honest : goal.returns-clause-honest
returns-clause-honest g c = λ p text named answer proof before calls published root proved is new reply.
    let limit : c.fetch_reply.new.reply.limit ≡ c.args.max_size = c.fetch_reply.ensures.limit ∙ ap (λ k. k.limit) c.new-reply.ensures in
    let (made, log, ends) = fetched_at _ _ _ _ before c.in_default-fetch_reply.ensures.fetched is in
    let same : calls ≡ made = same_calls (g.D.Dial.log c.fetch_reply.new.dial) calls made before new log in
    let held = subst (λ (k : List Call). HasReply c.args.max_size (bytes_received k) named answer proof) same reply in
    let parts = subst (λ (l : ℕ). HasReply l (bytes_received made) c.in-Some.parts.root.now c.in-Some.parts.answer.now c.in-Some.parts.proof.now) limit
    (c.in-Some.ensures.some (bytes_received made) ends.2) in
    let one = reply-unique c.args.max_size (bytes_received made) named answer proof _ _ _ held parts in
    let shows = c.in_ok-shown.ensures.honest p text published root (subst (IsProvedIn p c.args.query.now c.args.form text) one.2 proved) in
    subst (λ r. IfErr r (IsExcused c.args.max_work)) (sym c.result_of.ensures) (shown_excused c.args.max_work text c.in_ok-shown.shown shows c.in_ok-shown.ensures.limited)

pub returns-clause-limited : goal.returns-clause-limited
returns-clause-limited g c = λ none same. shown_limited c.in_ok-shown.shown (c.in_ok-shown.ensures.limited none) (sym c.result_of.ensures ∙ same)

pub returns-clause-no_device : goal.returns-clause-no_device
returns-clause-no_device g c = subst (λ r. IfErr r (λ fault. fault ≢ Device)) (sym c.result_of.ensures) (shown_no_device c.in_ok-shown.shown)
