use Rattle.std.proofs.Common.{rules, ◌≡◌, Bool, true, false, subst}
use Rattle.entry_sort.specs.internal.Puts.{FlushesIf}
use Rattle.entry_sort.proofs.read_lines.read_all.Goals as goal

pub returns-then-branch-clause-read : goal.returns-then-branch-clause-read
returns-then-branch-clause-read g c known at puts put few all h =
    let test : c.in_ok-flush.field-0 ≡ true = search rules in
    let flushed = subst (λ (b : Bool). FlushesIf g.S.RunStore.runs g.S.RunStore.in_hand b c.flush.new.self puts) test (c.in_ok-flush.ensures.flushed puts h) in
    record { puts = puts; at = at; put = put; few = few; ended = all; taken = flushed }

pub returns-else-branch-clause-read : goal.returns-else-branch-clause-read
returns-else-branch-clause-read g c known at puts put few all h =
    let test : c.in_ok-flush.field-0 ≡ false = search rules in
    let flushed = subst (λ (b : Bool). FlushesIf g.S.RunStore.runs g.S.RunStore.in_hand b c.flush.new.self puts) test (c.in_ok-flush.ensures.flushed puts h) in
    record { puts = puts; at = at; put = put; few = few; ended = flushed.1; taken = flushed.0 }
