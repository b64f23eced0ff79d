use Rattle.std.proofs.Common.{refl, subst}
use Rattle.mirror_reply.specs.internal.Stages.{IsStage}
use Rattle.mirror_reply.proofs.StageLemmas.{has-text, not-text}
use Rattle.mirror_reply.proofs.standing.text_of.Goals as goal

pub returns-in_default : goal.returns-in_default
returns-in_default c = not-text c.args.limit c.args.bytes.now c.args.stage c.requires c.in_default.not-Text

pub returns : goal.returns
returns c =
    let is = subst (IsStage c.args.limit c.args.bytes.now) c.in-Text.is c.requires in
    has-text c.args.limit c.args.bytes.now _ c.in-Text.status c.in-Text.start c.in-Text.end c.min.result is c.min.ensures refl
