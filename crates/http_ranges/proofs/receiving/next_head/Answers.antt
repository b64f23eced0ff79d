use Rattle.std.proofs.Common.{◌∙◌, ap, take}
use Rattle.http_ranges.proofs.PassingLemmas.{next-taken}
use Rattle.http_ranges.proofs.receiving.next_head.Goals as goal

pub returns : goal.returns
returns g c =
    let len = c.in_ok-len.len in
    let head = c.split_at.result.0.now in
    let front = c.split_at.ensures.front ∙ ap (take len) c.rest.ensures in
    rw c.skip.ensures (next-taken c.args.asked c.args.size _ _ _ c.await_head.new.incoming head len c.judge_head-judgement.result c.in_ok-len.ensures.passes front c.judge_head-judgement.ensures)
