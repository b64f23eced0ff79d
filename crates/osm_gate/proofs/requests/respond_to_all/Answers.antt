use Rattle.std.proofs.Common.{◌∙◌, ap, refl, arith, length, []}
use Rattle.http_messages.specs.HeadEnds.{begins_with_break, skip_breaks}
use Rattle.osm_gate.specs.Connections.{open_rest}
use Rattle.osm_gate.specs.Terms.{terms_of}
use Rattle.osm_gate.specs.internal.Steps.{StepIs}
use Rattle.osm_gate.specs.declared.requests.Step.TheVariants.{Open, Ended, Next}
use Rattle.http_messages.proofs.shared.BreakLemmas.{skip-begins, skip-fits}
use Rattle.osm_gate.proofs.StepLemmas.{tail-skip, tail-drop, tail-place, tail-whole, step-open, step-ended, step-next}
use Rattle.osm_gate.proofs.requests.respond_to_all.Goals as goal

pub respond_to_first-requires-clause-begins : goal.respond_to_first-requires-clause-begins
respond_to_first-requires-clause-begins g c = ap begins_with_break c.without_breaks-start.ensures ∙ skip-begins c.loop-responses.rest.now

pub overflow_sub-at : goal.overflow_sub-at
overflow_sub-at g c =
    let tail = tail-skip c.loop-responses.rest.now c.args.bytes.now c.loop-responses.invariant.tail in
    let place = tail-place (skip_breaks c.loop-responses.rest.now) c.args.bytes.now tail in
    rw c.without_breaks-start.ensures place.0

pub returns-in-Open-clause-responses : goal.returns-in-Open-clause-responses
returns-in-Open-clause-responses g c =
    let step : StepIs (terms_of c.args.most g.M.Mirror.may_fail) (Open c.in-Open.needed) (g.M.Mirror.holds c.args.mirror.now) c.without_breaks-start.result.now c.loop-responses.responses c.respond_to_first.new.responses =
    rw c.in-Open.is at c.in_ok-needed.ensures.step in
    (step-open (terms_of c.args.most g.M.Mirror.may_fail) (g.M.Mirror.holds c.args.mirror.now) c.args.bytes.now c.loop-responses.rest.now c.without_breaks-start.result.now
    c.loop-responses.responses c.respond_to_first.new.responses c.without_breaks-start.ensures c.loop-responses.invariant.said c.in-Open.needed step).0

pub returns-in-Open-clause-rest : goal.returns-in-Open-clause-rest
returns-in-Open-clause-rest g c =
    let step : StepIs (terms_of c.args.most g.M.Mirror.may_fail) (Open c.in-Open.needed) (g.M.Mirror.holds c.args.mirror.now) c.without_breaks-start.result.now c.loop-responses.responses c.respond_to_first.new.responses =
    rw c.in-Open.is at c.in_ok-needed.ensures.step in
    let tail = tail-skip c.loop-responses.rest.now c.args.bytes.now c.loop-responses.invariant.tail in
    let place = tail-place (skip_breaks c.loop-responses.rest.now) c.args.bytes.now tail in
    let start = rw (← c.without_breaks-start.ensures) at place.1 in
    (step-open (terms_of c.args.most g.M.Mirror.may_fail) (g.M.Mirror.holds c.args.mirror.now) c.args.bytes.now c.loop-responses.rest.now c.without_breaks-start.result.now
    c.loop-responses.responses c.respond_to_first.new.responses c.without_breaks-start.ensures c.loop-responses.invariant.said c.in-Open.needed step).1
    ∙ ap open_rest start

pub returns-in-Open-clause-open : goal.returns-in-Open-clause-open
returns-in-Open-clause-open g c =
    let step : StepIs (terms_of c.args.most g.M.Mirror.may_fail) (Open c.in-Open.needed) (g.M.Mirror.holds c.args.mirror.now) c.without_breaks-start.result.now c.loop-responses.responses c.respond_to_first.new.responses =
    rw c.in-Open.is at c.in_ok-needed.ensures.step in
    let tail = tail-skip c.loop-responses.rest.now c.args.bytes.now c.loop-responses.invariant.tail in
    let place = tail-place (skip_breaks c.loop-responses.rest.now) c.args.bytes.now tail in
    let start = rw (← c.without_breaks-start.ensures) at place.1 in
    (omega arith, rw (← start) step.1)

pub returns-in-Ended-clause-responses : goal.returns-in-Ended-clause-responses
returns-in-Ended-clause-responses g c =
    let step : StepIs (terms_of c.args.most g.M.Mirror.may_fail) Ended (g.M.Mirror.holds c.args.mirror.now) c.without_breaks-start.result.now c.loop-responses.responses c.respond_to_first.new.responses =
    rw (c.in-Ended.is, c.loop-responses.invariant.same) at c.in_ok-needed.ensures.step in
    (step-ended (terms_of c.args.most g.M.Mirror.may_fail) (g.M.Mirror.holds c.args.mirror.now) c.args.bytes.now c.loop-responses.rest.now c.without_breaks-start.result.now
    c.loop-responses.responses c.respond_to_first.new.responses c.without_breaks-start.ensures c.loop-responses.invariant.said step).0

pub returns-in-Ended-clause-rest : goal.returns-in-Ended-clause-rest
returns-in-Ended-clause-rest g c =
    let step : StepIs (terms_of c.args.most g.M.Mirror.may_fail) Ended (g.M.Mirror.holds c.args.mirror.now) c.without_breaks-start.result.now c.loop-responses.responses c.respond_to_first.new.responses =
    rw (c.in-Ended.is, c.loop-responses.invariant.same) at c.in_ok-needed.ensures.step in
    (step-ended (terms_of c.args.most g.M.Mirror.may_fail) (g.M.Mirror.holds c.args.mirror.now) c.args.bytes.now c.loop-responses.rest.now c.without_breaks-start.result.now
    c.loop-responses.responses c.respond_to_first.new.responses c.without_breaks-start.ensures c.loop-responses.invariant.said step).1

pub split_at-requires : goal.split_at-requires
split_at-requires g c =
    let step : StepIs (terms_of c.args.most g.M.Mirror.may_fail) (Next c.in-Next.used) (g.M.Mirror.holds c.args.mirror.now) c.without_breaks-start.result.now c.loop-responses.responses c.respond_to_first.new.responses =
    rw (c.in-Next.is, c.loop-responses.invariant.same) at c.in_ok-needed.ensures.step in
    (step-next (terms_of c.args.most g.M.Mirror.may_fail) (g.M.Mirror.holds c.args.mirror.now) c.args.bytes.now c.loop-responses.rest.now c.without_breaks-start.result.now
    c.loop-responses.responses c.respond_to_first.new.responses c.without_breaks-start.ensures c.loop-responses.invariant.said c.in-Next.used step).1

pub loop-responses-smaller : goal.loop-responses-smaller
loop-responses-smaller g c =
    let step : StepIs (terms_of c.args.most g.M.Mirror.may_fail) (Next c.in-Next.used) (g.M.Mirror.holds c.args.mirror.now) c.without_breaks-start.result.now c.loop-responses.responses c.respond_to_first.new.responses =
    rw (c.in-Next.is, c.loop-responses.invariant.same) at c.in_ok-needed.ensures.step in
    let next = step-next (terms_of c.args.most g.M.Mirror.may_fail) (g.M.Mirror.holds c.args.mirror.now) c.args.bytes.now c.loop-responses.rest.now c.without_breaks-start.result.now
    c.loop-responses.responses c.respond_to_first.new.responses c.without_breaks-start.ensures c.loop-responses.invariant.said c.in-Next.used step in
    let fits = skip-fits c.loop-responses.rest.now in
    let size = ap length c.without_breaks-start.ensures in
    omega (arith, next.0, next.1, fits, size, c.split_at.ensures.back_len)

pub loop-responses-preserved : goal.loop-responses-preserved
loop-responses-preserved g c =
    let step : StepIs (terms_of c.args.most g.M.Mirror.may_fail) (Next c.in-Next.used) (g.M.Mirror.holds c.args.mirror.now) c.without_breaks-start.result.now c.loop-responses.responses c.respond_to_first.new.responses =
    rw (c.in-Next.is, c.loop-responses.invariant.same) at c.in_ok-needed.ensures.step in
    let next = step-next (terms_of c.args.most g.M.Mirror.may_fail) (g.M.Mirror.holds c.args.mirror.now) c.args.bytes.now c.loop-responses.rest.now c.without_breaks-start.result.now
    c.loop-responses.responses c.respond_to_first.new.responses c.without_breaks-start.ensures c.loop-responses.invariant.said c.in-Next.used step in
    let tail = tail-skip c.loop-responses.rest.now c.args.bytes.now c.loop-responses.invariant.tail in
    let start_tail = rw (← c.without_breaks-start.ensures) at tail in
    record {
      said = rw c.split_at.ensures.back next.2;
      scanned = refl;
      same = c.respond_to_first.ensures.same ∙ c.loop-responses.invariant.same;
      tail = rw c.split_at.ensures.back (tail-drop c.without_breaks-start.result.now c.args.bytes.now c.in-Next.used next.1 start_tail);
    }

pub loop-responses-init : goal.loop-responses-init
loop-responses-init g c = record { said = ([], refl, λ p holds. c.new-responses.ensures); scanned = c.requires.scanned; tail = tail-whole c.args.bytes.now; same = refl }
