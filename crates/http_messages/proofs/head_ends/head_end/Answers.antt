use Rattle.std.proofs.Common.{◌≡◌, ◌∙◌, ◌+◌, ◌-◌, ap, arith, drop, length, refl, take}
use Rattle.std.proofs.lemmas.List.{length-drop}
use Rattle.http_messages.specs.HeadEnds.{empty_line}
use Rattle.http_messages.proofs.shared.HeadEndLemmas.{ended-feed, first_feed, head_length-since, no_feed, passed-all, passed-feed, passed-least, rest_is}
use Rattle.http_messages.proofs.head_ends.head_end.Goals as goal

pub loop-len-init : goal.loop-len-init
loop-len-init c = record {
  within = omega (arith, c.min-at.ensures);
  passed = passed-least c.saturating_sub.result c.min-at.result c.args.bytes.now c.min-at.ensures (head_length-since c.args.scanned c.saturating_sub.result c.args.bytes.now c.saturating_sub.ensures c.requires);
}

pub loop-len-preserved : goal.loop-len-preserved
loop-len-preserved c =
    let at = c.loop-len.at in
    let bytes = c.args.bytes.now in
    let next = at + (c.in-Some.len + 1) in
    let feed = first_feed (take (length bytes - at) (drop at bytes)) (drop at bytes) c.in-Some.len (rest_is at bytes) c.in-Some.ensures in
    let line_is : c.empty_line_at-line.result ≡ empty_line (drop next bytes) = c.empty_line_at-line.ensures ∙ ap empty_line (rest_is next bytes) in
    let none : empty_line (drop next bytes) ≡ 0 = omega (arith, line_is, c.if-line-gt0.false) in
    record {
      within = omega (arith, feed.within, length-drop at bytes);
      passed = passed-feed at c.in-Some.len next bytes refl c.loop-len.invariant.passed feed none;
    }

pub returns-then-line-gt0 : goal.returns-then-line-gt0
returns-then-line-gt0 c =
    let at = c.loop-len.at in
    let bytes = c.args.bytes.now in
    let next = at + (c.in-Some.len + 1) in
    ended-feed at c.in-Some.len next c.empty_line_at-line.result bytes refl c.loop-len.invariant.passed
    (first_feed (take (length bytes - at) (drop at bytes)) (drop at bytes) c.in-Some.len (rest_is at bytes) c.in-Some.ensures)
    (c.empty_line_at-line.ensures ∙ ap empty_line (rest_is next bytes)) c.if-line-gt0.true

pub returns : goal.returns
returns c =
    let at = c.loop-len.at in
    let bytes = c.args.bytes.now in
    passed-all at bytes c.loop-len.invariant.passed (no_feed (take (length bytes - at) (drop at bytes)) (drop at bytes) (rest_is at bytes) c.in_default.ensures)
