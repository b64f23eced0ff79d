use Rattle.std.proofs.Common.{◌∙◌, ◌≡◌, ◌-◌, ◌++◌, ap, arith, length, List, rules, subst, sym, take, ℕ}
use Rattle.std.specs.Prelude.{None, Some}
use Rattle.std.proofs.lemmas.List.{length-take-le}
use Rattle.http_messages.specs.HeadEnds.{head_length}
use Rattle.http_messages.proofs.shared.HeadEndLemmas.{head_length-fits, rest_is}
use Rattle.mirror_reply.specs.Heads.{head_end}
use Rattle.mirror_reply.specs.internal.Stages.{IsStage, Keeps}
use Rattle.mirror_reply.specs.declared.limits.TheConstants.{HEAD_LIMIT}
use Rattle.mirror_reply.specs.declared.reply_fault.ReplyFault.TheVariants.{BadHead}
use Rattle.mirror_reply.proofs.StageLemmas.{failed-settled, head-late, kept-twice, pushed-keeps, pushed-short, scanned-none, stage-now, window-is}
use Rattle.mirror_reply.proofs.keeping.keep_head.Goals as goal

pub head_end-requires : goal.head_end-requires
head_end-requires c =
    let size : c.len-before.result ≡ length c.args.bytes.now.items = search rules in
    scanned-none c.args.bytes.now.items c.push_up_to.new.bytes.items c.deref.result.now c.args.piece.now c.len-before.result c.requires
    c.in_ok-push_up_to.ensures.pushed size c.deref.ensures.value

pub returns-then-len-lt-HEAD_LIMIT-clause-stage : goal.returns-then-len-lt-HEAD_LIMIT-clause-stage
returns-then-len-lt-HEAD_LIMIT-clause-stage c =
    let middle = c.push_up_to.new.bytes.items in
    let size : c.len.result ≡ length middle = search rules in
    let none : head_length middle ≡ None = ap head_length (sym c.deref.ensures.value) ∙ sym c.head_end.ensures ∙ c.in_default.is in
    (window-is middle (omega (arith, size, c.if-len-lt-HEAD_LIMIT.true)) ∙ none, omega (arith, size, c.if-len-lt-HEAD_LIMIT.true))

pub returns-in_default-clause-stage : goal.returns-in_default-clause-stage
returns-in_default-clause-stage c =
    let middle = c.push_up_to.new.bytes.items in
    let size : c.len.result ≡ length middle = search rules in
    let none : head_length middle ≡ None = ap head_length (sym c.deref.ensures.value) ∙ sym c.head_end.ensures ∙ c.in_default.is in
    head-late c.args.limit middle none (omega (arith, size, c.if-len-lt-HEAD_LIMIT.false))
    (pushed-short c.args.bytes.now.items middle c.args.piece.now c.in_ok-push_up_to.ensures.pushed c.requires.1)

pub returns-in_default-clause-kept : goal.returns-in_default-clause-kept
returns-in_default-clause-kept c =
    let old = c.args.bytes.now.items in
    let middle = c.push_up_to.new.bytes.items in
    let size : c.len.result ≡ length middle = search rules in
    let none : head_length middle ≡ None = ap head_length (sym c.deref.ensures.value) ∙ sym c.head_end.ensures ∙ c.in_default.is in
    let pushed = c.in_ok-push_up_to.ensures.pushed in
    let late = head-late c.args.limit middle none (omega (arith, size, c.if-len-lt-HEAD_LIMIT.false)) (pushed-short old middle c.args.piece.now pushed c.requires.1) in
    pushed-keeps c.args.limit old middle c.args.piece.now HEAD_LIMIT pushed (λ enough. failed-settled c.args.limit middle BadHead late)

pub slice_bounds-read_stage-end : goal.slice_bounds-read_stage-end
slice_bounds-read_stage-end c =
    let e : head_length c.deref.result.now ≡ Some c.in-Some.len = sym c.head_end.ensures ∙ c.in-Some.is in
    let fits = head_length-fits c.deref.result.now c.in-Some.len e in
    sym (length-take-le c.in-Some.len c.deref-2.result.now (omega (arith, fits.1, ap length c.deref.ensures.value, ap length c.deref-2.ensures.value)))

pub keep_rest-requires-clause-known : goal.keep_rest-requires-clause-known
keep_rest-requires-clause-known c =
    let middle = c.push_up_to.new.bytes.items in
    let n = c.in-Some.len in
    let known = c.read_stage-stage.result in
    let e : head_length middle ≡ Some n = ap head_length (sym c.deref.ensures.value) ∙ sym c.head_end.ensures ∙ c.in-Some.is in
    stage-now c.args.limit middle n known e (pushed-short c.args.bytes.now.items middle c.args.piece.now c.in_ok-push_up_to.ensures.pushed c.requires.1)
    (subst (λ (b : List ℕ). (after : List ℕ) → head_end (take n b ++ after) ≡ Some (length (take n b)) → IsStage c.args.limit (take n b ++ after) known)
    c.deref-2.ensures.value c.read_stage-stage.ensures.stage)

pub returns-in-Ok-clause-kept : goal.returns-in-Ok-clause-kept
returns-in-Ok-clause-kept c =
    let old = c.args.bytes.now.items in
    let middle = c.push_up_to.new.bytes.items in
    let used = c.len-2.result - c.len-before.result in
    let before : c.len-before.result ≡ length old = search rules in
    let now : c.len-2.result ≡ length middle = search rules in
    let place : used ≡ length middle - length old = omega (arith, before, now) in
    kept-twice c.args.limit old middle c.keep_rest.new.bytes.items c.args.piece.now used HEAD_LIMIT c.in_ok-push_up_to.ensures.pushed place
    (subst (λ (p : List ℕ). Keeps c.args.limit middle c.keep_rest.new.bytes.items p) (rest_is used c.args.piece.now) c.in-Ok.ensures.kept)
