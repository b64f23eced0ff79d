use Rattle.std.proofs.Common.{◌∙◌, ◌≤◌, ap, sym, arith, take, drop, ℕ, List}
use Rattle.http_messages.specs.HeadEnds.{head_length, line_feeds}
use Rattle.http_messages.specs.Heads.{head_of}
use Rattle.http_messages.specs.Requests.{after_head}
use Rattle.http_messages.specs.declared.limits.TheConstants.{LINE_LIMIT}
use Rattle.http_messages.proofs.shared.RequestLemmas.{end-fits, request-open, request-too_long, request-lines, request-head, body_open-waits, body_open-missing}
use Rattle.http_messages.proofs.decision.first_request.Goals as goal

pub returns-then-bytes-lt-HEAD_LIMIT-clause-decided : goal.returns-then-bytes-lt-HEAD_LIMIT-clause-decided
returns-then-bytes-lt-HEAD_LIMIT-clause-decided c =
    let e = ap head_length (sym c.window.ensures) ∙ sym c.head_end.ensures ∙ c.in_default.is in
    request-open c.args.bytes.now e c.if-bytes-lt-HEAD_LIMIT.true

pub returns-in_default-clause-decided : goal.returns-in_default-clause-decided
returns-in_default-clause-decided c =
    let e = ap head_length (sym c.window.ensures) ∙ sym c.head_end.ensures ∙ c.in_default.is in
    request-too_long c.args.bytes.now e c.if-bytes-lt-HEAD_LIMIT.false

pub split_at-requires : goal.split_at-requires
split_at-requires c =
    let e = ap head_length (sym c.window.ensures) ∙ sym c.head_end.ensures ∙ c.in-Some.is in
    (end-fits c.args.bytes.now c.in-Some.length e).0

pub returns-then-count_line_feeds-gt-LINE_LIMIT-clause-decided : goal.returns-then-count_line_feeds-gt-LINE_LIMIT-clause-decided
returns-then-count_line_feeds-gt-LINE_LIMIT-clause-decided c =
    let e = ap head_length (sym c.window.ensures) ∙ sym c.head_end.ensures ∙ c.in-Some.is in
    let lines = c.count_line_feeds.ensures ∙ ap line_feeds c.split_at.ensures.front in
    request-lines c.args.bytes.now c.in-Some.length e (omega (arith, lines, c.if-count_line_feeds-gt-LINE_LIMIT.true))

pub decide_head-requires-clause-short : goal.decide_head-requires-clause-short
decide_head-requires-clause-short c =
    let e = ap head_length (sym c.window.ensures) ∙ sym c.head_end.ensures ∙ c.in-Some.is in
    let fits = end-fits c.args.bytes.now c.in-Some.length e in
    omega (arith, fits.1, c.split_at.ensures.front_len)

pub returns-clause-decided : goal.returns-clause-decided
returns-clause-decided c =
    let e = ap head_length (sym c.window.ensures) ∙ sym c.head_end.ensures ∙ c.in-Some.is in
    let lines = c.count_line_feeds.ensures ∙ ap line_feeds c.split_at.ensures.front in
    let few : line_feeds (take c.in-Some.length c.args.bytes.now) ≤ LINE_LIMIT = omega (arith, lines, c.if-count_line_feeds-gt-LINE_LIMIT.false) in
    c.decide_head.ensures.decided
    ∙ ap (λ (n : ℕ). after_head n c.split_at.result.1.now (head_of c.split_at.result.0.now)) c.split_at.ensures.front_len
    ∙ ap (λ (b : List ℕ). after_head c.in-Some.length b (head_of c.split_at.result.0.now)) c.split_at.ensures.back
    ∙ ap (λ (h : List ℕ). after_head c.in-Some.length (drop c.in-Some.length c.args.bytes.now) (head_of h)) c.split_at.ensures.front
    ∙ request-head c.args.bytes.now c.in-Some.length e few

pub returns-clause-waits : goal.returns-clause-waits
returns-clause-waits c =
    let e = ap head_length (sym c.window.ensures) ∙ sym c.head_end.ensures ∙ c.in-Some.is in
    let lines = c.count_line_feeds.ensures ∙ ap line_feeds c.split_at.ensures.front in
    let few : line_feeds (take c.in-Some.length c.args.bytes.now) ≤ LINE_LIMIT = omega (arith, lines, c.if-count_line_feeds-gt-LINE_LIMIT.false) in
    body_open-waits c.args.bytes.now c.in-Some.length c.split_at.result.0.now c.split_at.result.1.now c.decide_head.result e few
    c.split_at.ensures.front c.split_at.ensures.back c.split_at.ensures.front_len c.decide_head.ensures.waits

pub returns-clause-missing : goal.returns-clause-missing
returns-clause-missing c =
    let e = ap head_length (sym c.window.ensures) ∙ sym c.head_end.ensures ∙ c.in-Some.is in
    body_open-missing c.args.bytes.now c.in-Some.length c.split_at.result.0.now c.split_at.result.1.now c.decide_head.result e
    c.split_at.ensures.back c.split_at.ensures.front_len c.decide_head.ensures.missing
