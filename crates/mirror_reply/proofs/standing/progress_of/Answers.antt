use Rattle.std.proofs.Common.{◌-◌, List, drop, refl, subst, ℕ}
use Rattle.http_messages.proofs.shared.HeadEndLemmas.{rest_is}
use Rattle.mirror_reply.specs.Standings.{by_body, failed, lacking}
use Rattle.mirror_reply.specs.internal.Stages.{IsStage, Says}
use Rattle.mirror_reply.specs.declared.reply_fault.ReplyFault.TheVariants.{BadStatus}
use Rattle.mirror_reply.proofs.StageLemmas.{body-stands, failed-stands, text-open, text-whole}
use Rattle.mirror_reply.proofs.standing.progress_of.Goals as goal

pub returns-then-bytes-end : goal.returns-then-bytes-end
returns-then-bytes-end c =
    let is = subst (IsStage c.args.limit c.args.bytes.now) c.in-Text.is c.requires in (
      lacking c.args.closed (BadStatus c.in-Text.status),
      text-open c.args.limit c.args.closed c.args.bytes.now c.in-Text.status c.in-Text.start c.in-Text.end is c.if-bytes-end.true,
      c.lacking-then-bytes-end.ensures,
    )

pub returns-else-bytes-end : goal.returns-else-bytes-end
returns-else-bytes-end c =
    let is = subst (IsStage c.args.limit c.args.bytes.now) c.in-Text.is c.requires in (
      failed (BadStatus c.in-Text.status),
      text-whole c.args.limit c.args.closed c.args.bytes.now c.in-Text.status c.in-Text.start c.in-Text.end is c.if-bytes-end.false,
      refl,
    )

pub returns-in-Failed : goal.returns-in-Failed
returns-in-Failed c =
    let is = subst (IsStage c.args.limit c.args.bytes.now) c.in-Failed.is c.requires in
    (failed c.in-Failed.fault, failed-stands c.args.limit c.args.closed c.args.bytes.now c.in-Failed.fault is, refl)

pub returns-in-Body : goal.returns-in-Body
returns-in-Body c =
    let is = subst (IsStage c.args.limit c.args.bytes.now) c.in-Body.is c.requires in
    let start = c.in-Body.start in
    let size = c.in-Body.end - start in (
      by_body c.args.closed size (drop start c.args.bytes.now),
      body-stands c.args.limit c.args.closed c.args.bytes.now start c.in-Body.end is,
      subst (λ (t : List ℕ). Says (by_body c.args.closed size t) c.body_progress.result) (rest_is start c.args.bytes.now) c.body_progress.ensures,
    )
