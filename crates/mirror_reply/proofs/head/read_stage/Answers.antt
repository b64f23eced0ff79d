use Rattle.mirror_reply.proofs.StageLemmas.{stage-no_head}
use Rattle.mirror_reply.proofs.head.read_stage.Goals as goal

pub returns-in_default-clause-stage : goal.returns-in_default-clause-stage
returns-in_default-clause-stage c = stage-no_head c.args.limit c.args.head.now c.in_default.ensures.none

pub returns-clause-stage : goal.returns-clause-stage
returns-clause-stage c = λ after ends. c.stage_after.ensures.stage after
