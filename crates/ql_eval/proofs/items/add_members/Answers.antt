use Rattle.std.proofs.Common.{refl}
use Rattle.ref_sets.proofs.shared.Adding.{adds_more, adds_one}
use Rattle.ql_eval.specs.internal.Listed.{IsTarget}
use Rattle.ql_eval.proofs.items.add_members.Goals as goal

pub loop-member-preserved : goal.loop-member-preserved
loop-member-preserved c =
    adds_more c.args.members.now IsTarget c.loop-member.member-index c.member-item.result c.loop-member-test.true c.member-item.is c.loop-member.invariant
    (adds_one c.member-item.result.target c.in_ok-push.ensures.items refl (λ r is. is))
