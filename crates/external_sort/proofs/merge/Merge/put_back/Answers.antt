use Rattle.std.proofs.Common.{rules, ◌≡◌, ◌+◌, ◌≤◌, sym, subst, ℕ, List, Bool, Option, Some}
use Rattle.std.specs.List.{sum_by}
use Rattle.std.specs.BinaryHeap.{heap_items}
use Rattle.external_sort.specs.Records.{Fits}
use Rattle.external_sort.specs.internal.Merging.{Given, Ready, StateOf, of_run}
use Rattle.external_sort.specs.internal.Reading.{Moves}
use Rattle.external_sort.specs.declared.run_reader.RunReader.{RunReader}
use Rattle.external_sort.proofs.MergeLemmas.{of_run_all, ready_again, ready_without}
use Rattle.external_sort.proofs.UnreadLemmas.{put_back_left}
use Rattle.external_sort.specs.internal.Unread.{unread_of, unread_with_own}
use Rattle.external_sort.proofs.merge.Merge.put_back.Goals as goal

pub returns-in_ok-push-clause-ready : goal.returns-in_ok-push-clause-ready
returns-in_ok-push-clause-ready g c is_true turns fit state =
    let runs = g.S.RunStore.runs c.args.self.now.store in
    let r : RunReader = c.in-Some.reader in
    let items = heap_items c.args.self.now.heap in
    let current : c.args.self.now.current ≡ Some r = search rules in
    let given : Given runs turns r items = subst (λ (o : Option RunReader). StateOf runs turns o items) current state in
    let moves = c.in_ok-advance.ensures.moves is_true (of_run r.run turns) (of_run_all Fits r.run turns fit) given.own in
    let on = subst (λ (b : Bool). Moves b runs c.advance.new.self (of_run r.run turns)) c.if-branch.true moves in
    let ready = ready_again runs turns r c.advance.new.self items (heap_items c.push.new.self) given on c.advance.ensures.run c.in_ok-push.ensures.permutation in
    subst (λ (rs : List (List ℕ)). Ready rs turns (heap_items c.push.new.self)) (sym c.in_ok-advance.ensures.runs) ready

pub returns-else-branch-clause-ready : goal.returns-else-branch-clause-ready
returns-else-branch-clause-ready g c is_true turns fit state =
    let runs = g.S.RunStore.runs c.args.self.now.store in
    let r : RunReader = c.in-Some.reader in
    let items = heap_items c.args.self.now.heap in
    let current : c.args.self.now.current ≡ Some r = search rules in
    let given : Given runs turns r items = subst (λ (o : Option RunReader). StateOf runs turns o items) current state in
    let moves = c.in_ok-advance.ensures.moves is_true (of_run r.run turns) (of_run_all Fits r.run turns fit) given.own in
    let on = subst (λ (b : Bool). Moves b runs c.advance.new.self (of_run r.run turns)) c.if-branch.false moves in
    subst (λ (rs : List (List ℕ)). Ready rs turns items) (sym c.in_ok-advance.ensures.runs) (ready_without runs turns r items given on)

pub returns-in_err-advance-clause-device : goal.returns-in_err-advance-clause-device
returns-in_err-advance-clause-device g c refuses is_true turns fit state e =
    let runs = g.S.RunStore.runs c.args.self.now.store in
    let r : RunReader = c.in-Some.reader in
    let items = heap_items c.args.self.now.heap in
    let current : c.args.self.now.current ≡ Some r = search rules in
    let given : Given runs turns r items = subst (λ (o : Option RunReader). StateOf runs turns o items) current state in
    c.in_err-advance.ensures.device refuses is_true (of_run r.run turns) (of_run_all Fits r.run turns fit) given.own (search rules)

pub returns-in_ok-push-clause-left : goal.returns-in_ok-push-clause-left
returns-in_ok-push-clause-left g c =
    let r : RunReader = c.in-Some.reader in
    let items = heap_items c.args.self.now.heap in
    let current : c.args.self.now.current ≡ Some r = search rules in
    let fewer = c.advance.ensures.fewer (search rules) in
    subst (λ (o : Option RunReader). sum_by unread_with_own (heap_items c.push.new.self) ≤ sum_by unread_with_own items + unread_of o) (sym current)
    (put_back_left r c.advance.new.self items (heap_items c.push.new.self) c.in_ok-push.ensures.permutation fewer)
