use Rattle.std.proofs.Common.{subst, [], Bool, get_or}
use Rattle.std.specs.BinaryHeap.{heap_items}
use Rattle.std.proofs.lemmas.List.Elements.{All-get_or, All-from_recursion}
use Rattle.std.specs.List.{All}
use Rattle.external_sort.specs.Records.{Fits}
use Rattle.external_sort.specs.internal.Reading.{Moves}
use Rattle.external_sort.proofs.BeginLemmas.{begin_no, begin_yes}
use Rattle.external_sort.proofs.merge.begin.Goals as goal

pub returns-in_ok-push-clause-begun : goal.returns-in_ok-push-clause-begun
returns-in_ok-push-clause-begun g c is_true lens kept h lt left up =
    let r = c.args.reader in
    let runs = g.S.RunStore.runs c.args.store.now in
    let es = get_or kept r.run [] in
    let fit = All-get_or (All Fits) kept r.run [] lt (All-from_recursion (All Fits) kept h.fit) in
    let moves = c.in_ok-advance.ensures.moves is_true es fit left in
    let on = subst (λ (b : Bool). Moves b runs c.advance.new.self es) c.if-branch.true moves in
    begin_yes runs kept r.run c.advance.new.self (heap_items c.args.heap.now) (heap_items c.push.new.self) h.rise up c.advance.ensures.run on c.in_ok-push.ensures.permutation

pub returns-else-branch-clause-begun : goal.returns-else-branch-clause-begun
returns-else-branch-clause-begun g c is_true lens kept h lt left up =
    let r = c.args.reader in
    let runs = g.S.RunStore.runs c.args.store.now in
    let es = get_or kept r.run [] in
    let fit = All-get_or (All Fits) kept r.run [] lt (All-from_recursion (All Fits) kept h.fit) in
    let moves = c.in_ok-advance.ensures.moves is_true es fit left in
    let on = subst (λ (b : Bool). Moves b runs c.advance.new.self es) c.if-branch.false moves in
    begin_no runs kept r.run (heap_items c.args.heap.now) h.rise up on
