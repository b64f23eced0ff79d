use Rattle.std.proofs.Common.{◌∙◌, sym}
use Rattle.mirror_reply.proofs.StageLemmas.{stage-no_length, stage-small, stage-too_long}
use Rattle.mirror_reply.proofs.head.stage_after.Goals as goal

pub returns-in_default-clause-stage : goal.returns-in_default-clause-stage
returns-in_default-clause-stage c =
    let (h, is, status, told) = c.requires.says in
    stage-no_length c.args.limit c.args.head.now h is c.requires.short (sym status ∙ c.if-status-ne200.false) (sym told ∙ c.in_default.is)

pub returns-then-size-limit-clause-stage : goal.returns-then-size-limit-clause-stage
returns-then-size-limit-clause-stage c =
    let (h, is, status, told) = c.requires.says in
    stage-too_long c.args.limit c.args.head.now h c.in-Some.size is c.requires.short (sym status ∙ c.if-status-ne200.false) (sym told ∙ c.in-Some.is)
    c.if-size-limit.true

pub returns-then-size-clause-stage : goal.returns-then-size-clause-stage
returns-then-size-clause-stage c =
    let (h, is, status, told) = c.requires.says in
    stage-small c.args.limit c.args.head.now h c.in-Some.size is c.requires.short (sym status ∙ c.if-status-ne200.false) (sym told ∙ c.in-Some.is)
    c.if-size-limit.false c.if-size.true
