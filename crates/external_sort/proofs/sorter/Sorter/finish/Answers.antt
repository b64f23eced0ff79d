use Rattle.std.proofs.Common.{rules, sym, subst, ℕ, List}
use Rattle.external_sort.specs.internal.Merging.{AreRuns}
use Rattle.external_sort.proofs.HeldLemmas.{gives}
use Rattle.external_sort.proofs.sorter.Sorter.finish.Goals as goal

pub returns-clause-given : goal.returns-clause-given
returns-clause-given g c is_true records h =
    let runs = g.S.RunStore.runs in
    let s = c.settle.new.self in
    let settled = c.in_ok-settle.ensures.settled records h in
    let stored = subst (λ (lens : List ℕ). AreRuns (runs s.store) lens settled.kept) (sym c.deref.ensures.value) settled.stored in
    let begins = c.in_ok-merge.ensures.begins is_true settled.kept stored in
    gives runs c.new-2.result c.in_ok-merge.merge settled.kept s.batch records settled.all settled.either begins c.new-2.ensures.batch c.new-2.ensures.given c.new-2.ensures.merge

pub returns-in_err-merge-clause-device : goal.returns-in_err-merge-clause-device
returns-in_err-merge-clause-device g c refuses is_true records h e =
    let runs = g.S.RunStore.runs in
    let s = c.settle.new.self in
    let settled = c.in_ok-settle.ensures.settled records h in
    let stored = subst (λ (lens : List ℕ). AreRuns (runs s.store) lens settled.kept) (sym c.deref.ensures.value) settled.stored in
    c.in_err-merge.ensures.device refuses is_true settled.kept stored (search rules)
