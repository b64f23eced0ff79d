use Rattle.std.proofs.Common.{◌≡◌, ◌∙◌, ◌∷◌, ◌++◌, arith, false, rules, subst, sym, take}
use Rattle.std.specs.Prelude.{Err, Result}
use Rattle.mirror_reply.specs.Calls.{broken, bytes_received, ended, received}
use Rattle.mirror_reply.specs.Fetches.{Ends}
use Rattle.mirror_reply.specs.Taken.{Tells}
use Rattle.mirror_reply.specs.declared.fetch_fault.FetchFault.{FetchFault}
use Rattle.mirror_reply.specs.declared.fetch_fault.FetchFault.TheVariants.{Memory}
use Rattle.mirror_reply.specs.declared.progress.Progress.TheVariants.{Whole}
use Rattle.mirror_reply.proofs.AskingLemmas.{ends-broken, ends-closed, ends-closed_whole, ends-endless, ends-failed, ends-starved, ends-whole, hearing-more, noted-some, taken-itself}
use Rattle.mirror_reply.proofs.TakenLemmas.{whole-kept}
use Rattle.mirror_reply.proofs.fetching.receive.Goals as goal

pub returns-in_err-take-in-Got-clause-received : goal.returns-in_err-take-in-Got-clause-received
returns-in_err-take-in-Got-clause-received g c = λ request asked base is ready.
    let (calls, log, hearing) = c.loop-reads.invariant.hearing request asked base is ready in
    let piece = take c.in-Got.count c.receive.new.piece in
    let fault : c.from_residual.result ≡ Err Memory = search rules in (
      received piece ∷ calls,
      noted-some (received piece) (g.D.Dial.log c.loop-reads.dial) (g.D.Dial.log c.receive.new.self) calls base log c.in-Got.ensures.received.2,
      subst (λ (r : Result (Unit {0}) FetchFault). Ends (record { request = request; kept = c.take.new.self }) (received piece ∷ calls) r) (sym fault)
          (ends-starved request c.loop-reads.reply c.loop-reads.reads calls hearing c.take.new.self piece c.in_err-take-in-Got.ensures.unchanged),
    )

pub returns-in-Whole-clause-received : goal.returns-in-Whole-clause-received
returns-in-Whole-clause-received g c = λ request asked base is ready.
    let (calls, log, hearing) = c.loop-reads.invariant.hearing request asked base is ready in
    let piece = take c.in-Got.count c.receive.new.piece in (
      received piece ∷ calls,
      noted-some (received piece) (g.D.Dial.log c.loop-reads.dial) (g.D.Dial.log c.receive.new.self) calls base log c.in-Got.ensures.received.2,
      ends-whole request c.loop-reads.reply c.loop-reads.reads calls hearing c.take.new.self piece c.take.ensures.limit
          (subst (Tells c.loop-reads.reply.limit false (bytes_received calls ++ piece)) c.in-Whole.is (c.in_ok-take-in-Got.ensures.told (bytes_received calls) hearing.taken))
          (c.in_ok-take-in-Got.ensures.taken (bytes_received calls) hearing.taken),
    )

pub returns-in-Whole-clause-whole : goal.returns-in-Whole-clause-whole
returns-in-Whole-clause-whole g c =
    let piece = take c.in-Got.count c.receive.new.piece in
    let old = c.loop-reads.reply in
    whole-kept c.take.new.self (old.bytes ++ piece) (c.in_ok-take-in-Got.ensures.taken old.bytes (taken-itself old))
    (subst (λ n. Tells n false (old.bytes ++ piece) Whole) (sym c.take.ensures.limit)
    (subst (Tells old.limit false (old.bytes ++ piece)) c.in-Whole.is (c.in_ok-take-in-Got.ensures.told old.bytes (taken-itself old))))

pub returns-in-Failed-clause-received : goal.returns-in-Failed-clause-received
returns-in-Failed-clause-received g c = λ request asked base is ready.
    let (calls, log, hearing) = c.loop-reads.invariant.hearing request asked base is ready in
    let piece = take c.in-Got.count c.receive.new.piece in (
      received piece ∷ calls,
      noted-some (received piece) (g.D.Dial.log c.loop-reads.dial) (g.D.Dial.log c.receive.new.self) calls base log c.in-Got.ensures.received.2,
      ends-failed request c.loop-reads.reply c.loop-reads.reads calls hearing c.take.new.self piece c.in-Failed.fault c.take.ensures.limit
          (subst (Tells c.loop-reads.reply.limit false (bytes_received calls ++ piece)) c.in-Failed.is (c.in_ok-take-in-Got.ensures.told (bytes_received calls) hearing.taken))
          (c.in_ok-take-in-Got.ensures.taken (bytes_received calls) hearing.taken),
    )

pub returns-in-Ok-clause-received : goal.returns-in-Ok-clause-received
returns-in-Ok-clause-received g c = λ request asked base is ready.
    let (calls, log, hearing) = c.loop-reads.invariant.hearing request asked base is ready in (
      ended ∷ calls,
      noted-some ended (g.D.Dial.log c.loop-reads.dial) (g.D.Dial.log c.receive.new.self) calls base log c.in-Ended.ensures.received,
      ends-closed_whole request c.loop-reads.reply c.loop-reads.reads calls hearing (c.in-Ok.ensures.whole (bytes_received calls) hearing.taken),
    )

pub returns-in-Err-clause-received : goal.returns-in-Err-clause-received
returns-in-Err-clause-received g c = λ request asked base is ready.
    let (calls, log, hearing) = c.loop-reads.invariant.hearing request asked base is ready in (
      ended ∷ calls,
      noted-some ended (g.D.Dial.log c.loop-reads.dial) (g.D.Dial.log c.receive.new.self) calls base log c.in-Ended.ensures.received,
      ends-closed request c.loop-reads.reply c.loop-reads.reads calls hearing c.in-Err.fault (c.in-Err.ensures.fault (bytes_received calls) hearing.taken),
    )

pub returns-in-Broken-clause-received : goal.returns-in-Broken-clause-received
returns-in-Broken-clause-received g c = λ request asked base is ready.
    let (calls, log, hearing) = c.loop-reads.invariant.hearing request asked base is ready in (
      broken ∷ calls,
      noted-some broken (g.D.Dial.log c.loop-reads.dial) (g.D.Dial.log c.receive.new.self) calls base log c.in-Broken.ensures.received,
      ends-broken request c.loop-reads.reply c.loop-reads.reads calls hearing,
    )

pub loop-reads-preserved : goal.loop-reads-preserved
loop-reads-preserved g c = record {
  few = omega arith;
  limit = c.take.ensures.limit ∙ c.loop-reads.invariant.limit;
  hearing = λ request asked base is ready.
      let (calls, log, hearing) = c.loop-reads.invariant.hearing request asked base is ready in
      let piece = take c.in-Got.count c.receive.new.piece in (
        received piece ∷ calls,
        noted-some (received piece) (g.D.Dial.log c.loop-reads.dial) (g.D.Dial.log c.receive.new.self) calls base log c.in-Got.ensures.received.2,
        hearing-more request c.loop-reads.reply c.loop-reads.reads calls hearing c.take.new.self piece c.take.ensures.limit
            (subst (Tells c.loop-reads.reply.limit false (bytes_received calls ++ piece)) c.in-More.is (c.in_ok-take-in-Got.ensures.told (bytes_received calls) hearing.taken))
            (c.in_ok-take-in-Got.ensures.taken (bytes_received calls) hearing.taken),
      );
}

pub returns-clause-received : goal.returns-clause-received
returns-clause-received g c = λ request asked base is ready.
    let (calls, log, hearing) = c.loop-reads.invariant.hearing request asked base is ready in
    (calls, log, ends-endless request c.loop-reads.reply c.loop-reads.reads calls hearing (omega arith))
