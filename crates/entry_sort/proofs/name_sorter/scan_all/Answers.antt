use Rattle.std.proofs.Common.{rules, ◌≡◌, ◌∙◌, sym, ap, subst, List, [], Bool, true, false}
use Rattle.external_sort.specs.Records.{Entry}
use Rattle.external_sort.specs.Sorting.{GoesOn}
use Rattle.entry_sort.specs.internal.Names.{line_in, scan, stepped}
use Rattle.entry_sort.specs.declared.repeat_scan.RepeatScan.{RepeatScan}
use Rattle.entry_sort.proofs.name_sorter.scan_all.Goals as goal

pub returns-clause-found : goal.returns-clause-found
returns-clause-found g c is_true given gives =
    let (left, has, same) = c.records.invariant is_true given gives in
    let test : c.in_ok-next.field-0 ≡ false = search rules in
    let none : left ≡ [] = subst (λ (b : Bool). GoesOn g.S.RunStore.runs b c.next.new.self left) test (c.in_ok-next.ensures.next is_true left has) in
    ap (λ (es : List Entry). (scan c.records.repeats es).found) (sym none) ∙ ap (λ (s : RepeatScan). s.found) same

pub records-preserved : goal.records-preserved
records-preserved g c is_true given gives =
    let (left, has, same) = c.records.invariant is_true given gives in
    let test : c.in_ok-next.field-0 ≡ true = search rules in
    let (x, more, is, at, has_more) = subst (λ (b : Bool). GoesOn g.S.RunStore.runs b c.next.new.self left) test (c.in_ok-next.ensures.next is_true left has) in
    let one : c.scan_current.new.repeats ≡ stepped c.records.repeats x.key (line_in x.value) = c.in_ok-scan_current.ensures.stepped x at in
    (more, has_more, ap (λ (s : RepeatScan). scan s more) one ∙ ap (λ (es : List Entry). scan c.records.repeats es) (sym is) ∙ same)

pub returns-in_err-next-clause-device : goal.returns-in_err-next-clause-device
returns-in_err-next-clause-device g c refuses is_true given gives e =
    let (left, has, same) = c.records.invariant is_true given gives in
    c.in_err-next.ensures.device refuses is_true left has (search rules)

pub returns-in_err-scan_current-clause-device : goal.returns-in_err-scan_current-clause-device
returns-in_err-scan_current-clause-device g c refuses is_true given gives e =
    let (left, has, same) = c.records.invariant is_true given gives in
    let test : c.in_ok-next.field-0 ≡ true = search rules in
    let (x, more, is, at, has_more) = subst (λ (b : Bool). GoesOn g.S.RunStore.runs b c.next.new.self left) test (c.in_ok-next.ensures.next is_true left has) in
    c.in_err-scan_current.ensures.device x at (search rules)
