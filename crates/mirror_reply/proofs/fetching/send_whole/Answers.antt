use Rattle.std.proofs.Common.{◌≡◌, ◌∷◌, ◌-◌, [], ap, arith, drop, length, refl, take, true}
use Rattle.std.proofs.lemmas.List.{length-drop}
use Rattle.http_messages.proofs.shared.HeadEndLemmas.{rest_is}
use Rattle.mirror_reply.specs.Calls.{opened, sent, unsent}
use Rattle.mirror_reply.proofs.AskingLemmas.{noted-some, sending-begun, sending-more, sending-start}
use Rattle.mirror_reply.proofs.fetching.send_whole.Goals as goal

pub loop-done-init : goal.loop-done-init
loop-done-init g c = record {
  within = omega arith;
  sending = λ base is. (opened true ∷ [], is, sending-start c.args.bytes.now);
}

pub returns-in-None : goal.returns-in-None
returns-in-None g c = λ base is.
    let (calls, log, sending) = c.loop-done.invariant.sending base is in (
      unsent ∷ calls,
      noted-some unsent (g.D.Dial.log c.loop-done.dial) (g.D.Dial.log c.send.new.self) calls base log c.in-None.ensures.sent,
      (refl, sending-begun c.args.bytes.now c.loop-done.done calls sending c.loop-done-test.true),
    )

pub returns-in-Some-eq0 : goal.returns-in-Some-eq0
returns-in-Some-eq0 g c = λ base is.
    let (calls, log, sending) = c.loop-done.invariant.sending base is in
    let bytes = c.args.bytes.now in
    let done = c.loop-done.done in
    let slice = take (length bytes - done) (drop done bytes) in
    let n = c.in-Some-eq0.field-0 in
    let none : n ≡ 0 = omega arith in (
      sent (take n slice) ∷ calls,
      noted-some (sent (take n slice)) (g.D.Dial.log c.loop-done.dial) (g.D.Dial.log c.send.new.self) calls base log c.in-Some-eq0.ensures.sent.1,
      (refl, (sending-begun bytes done calls sending c.loop-done-test.true, ap (λ k. take k slice) none)),
    )

pub loop-done-preserved : goal.loop-done-preserved
loop-done-preserved g c =
    let bytes = c.args.bytes.now in
    let done = c.loop-done.done in
    let slice = take (length bytes - done) (drop done bytes) in
    let n = c.in-Some.taken in
    record {
      within = omega (arith, c.in-Some.ensures.sent.0, ap length (rest_is done bytes), length-drop done bytes, c.loop-done-test.true);
      sending = λ base is.
          let (calls, log, sending) = c.loop-done.invariant.sending base is in (
            sent (take n slice) ∷ calls,
            noted-some (sent (take n slice)) (g.D.Dial.log c.loop-done.dial) (g.D.Dial.log c.send.new.self) calls base log c.in-Some.ensures.sent.1,
            sending-more bytes slice done n calls sending (rest_is done bytes),
          );
    }
