use Rattle.std.proofs.Common.{subst, true}
use Rattle.mirror_reply.specs.internal.Stages.{SaysOf}
use Rattle.mirror_reply.specs.declared.progress.Progress.TheVariants.{Failed, Whole}
use Rattle.mirror_reply.proofs.StageLemmas.{closed-decides}
use Rattle.mirror_reply.proofs.TakenLemmas.{says-waits, view-tells}
use Rattle.mirror_reply.proofs.reply.Reply.close.Goals as goal

pub unreachable-requires : goal.unreachable-requires
unreachable-requires c =
    closed-decides c.self.inside.limit c.deref.result.now
    (says-waits c.self.inside.limit true c.deref.result.now c.progress_of.result c.progress_of.ensures c.in-More.is)

pub returns-in-Whole-clause-whole : goal.returns-in-Whole-clause-whole
returns-in-Whole-clause-whole c = λ received taken.
    view-tells c.args.self.now c.self.inside.limit c.self.inside.bytes.items c.deref.result.now received c.self.view_is c.deref.ensures.value taken true Whole
    (subst (SaysOf c.self.inside.limit true c.deref.result.now) c.in-Whole.is c.progress_of.ensures)

pub returns-in-Failed-clause-fault : goal.returns-in-Failed-clause-fault
returns-in-Failed-clause-fault c = λ received taken.
    view-tells c.args.self.now c.self.inside.limit c.self.inside.bytes.items c.deref.result.now received c.self.view_is c.deref.ensures.value taken true (Failed c.in-Failed.fault)
    (subst (SaysOf c.self.inside.limit true c.deref.result.now) c.in-Failed.is c.progress_of.ensures)
