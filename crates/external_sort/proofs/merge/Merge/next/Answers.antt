use Rattle.std.proofs.Common.{rules, ◌≡◌, ◌∙◌, sym, subst, List, Bool, IfSome, Ok, true, arith}
use Rattle.std.specs.Prelude.{is_some}
use Rattle.std.specs.BinaryHeap.{IsHeap, IsUpperBound, heap_items}
use Rattle.std.specs.List.{All}
use Rattle.external_sort.specs.Records.{Entry, Fits}
use Rattle.external_sort.specs.internal.Merging.{Goes}
use Rattle.external_sort.specs.internal.Turns.{turn_cmp}
use Rattle.external_sort.specs.declared.run_reader.RunReader.{RunReader}
use Rattle.external_sort.proofs.MergeLemmas.{next_goes}
use Rattle.external_sort.proofs.UnreadLemmas.{popped_left}
use Rattle.external_sort.proofs.merge.Merge.next.Goals as goal

pub returns-clause-goes : goal.returns-clause-goes
returns-clause-goes g c is_true records m =
    let old = c.put_back.new.self in
    let fit = subst (λ (es : List Entry). All Fits es) m.is m.fit in
    let ready = c.in_ok-put_back.ensures.ready is_true m.turns fit m.state in
    let sound : IsHeap turn_cmp (heap_items old.heap) = c.in_ok-put_back.ensures.heap m.heap in
    let top : IfSome c.pop.result (λ (r : RunReader). IsUpperBound turn_cmp r (heap_items c.pop.new.self)) = search rules in
    let still : IfSome c.pop.result (λ (_ : RunReader). IsHeap turn_cmp (heap_items c.pop.new.self)) = search rules in
    subst (λ (b : Bool). Goes g.S.RunStore.runs b (record { store = old.store; heap = c.pop.new.self; current = c.pop.result }) records) (sym c.is_some.ensures)
    (next_goes g.S.RunStore.runs old.store c.pop.new.self c.pop.result (heap_items old.heap) old.heap.data.len records m.turns m.is m.order m.fit ready old.heap.data.ok.0 c.pop.ensures.permutation top still c.pop.ensures.none)

pub returns-clause-fewer : goal.returns-clause-fewer
returns-clause-fewer g c more =
    let some : is_some c.pop.result ≡ true = sym c.is_some.ensures ∙ (let e = more in cc) in
    omega (arith, popped_left c.pop.result (heap_items c.put_back.new.self.heap) (heap_items c.pop.new.self) c.pop.ensures.permutation some, c.in_ok-put_back.ensures.left)
