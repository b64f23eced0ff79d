use Rattle.std.proofs.Common.{arith, ap, List, length}
use Rattle.external_sort.specs.Records.{Entry}
use Rattle.external_sort.proofs.HeldLemmas.{goes_memory, goes_merge}
use Rattle.external_sort.proofs.UnreadLemmas.{fewer_in_memory, fewer_in_runs, no_more_in_runs}
use Rattle.external_sort.proofs.sorted.Sorted.next.Goals as goal

pub returns-then-self-len-clause-next : goal.returns-then-self-len-clause-next
returns-then-self-len-clause-next g c is_true records h = goes_memory g.S.RunStore.runs c.args.self.now records h (omega (arith, c.if-self-len.true, c.len.ensures))

pub returns-clause-next : goal.returns-clause-next
returns-clause-next g c is_true = goes_merge g.S.RunStore.runs c.args.self.now c.clear.new.self c.next.new.self c.next.result (omega (arith, c.if-self-len.false, c.len.ensures)) c.clear.ensures (c.next.ensures.goes is_true)

pub returns-clause-device : goal.returns-clause-device
returns-clause-device g c refuses is_true records h = c.next.ensures.device refuses is_true h.merged h.merging

pub returns-then-self-len-clause-fewer : goal.returns-then-self-len-clause-fewer
returns-then-self-len-clause-fewer g c more = fewer_in_memory c.args.self.now (omega (arith, c.if-self-len.true, c.len.ensures))

pub returns-clause-fewer : goal.returns-clause-fewer
returns-clause-fewer g c more =
    fewer_in_runs c.args.self.now (record { batch = c.clear.new.self; given = 0; merge = c.next.new.self }) (ap (λ (es : List Entry). length es) c.clear.ensures) (c.next.ensures.fewer more)

pub returns-clause-no_more : goal.returns-clause-no_more
returns-clause-no_more g c over =
    no_more_in_runs c.args.self.now (record { batch = c.clear.new.self; given = 0; merge = c.next.new.self }) (ap (λ (es : List Entry). length es) c.clear.ensures) (c.next.ensures.no_more over)
