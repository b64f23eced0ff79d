use Rattle.std.proofs.Common.{rules, ◌≡◌, ◌∙◌, ◌≤◌, sym, ap, subst, Err, List, Option, [], ◌∷◌, ◌++◌, Bool, true, false, ℕ, length, length-append, append_assoc, append-nil, arith}
use Rattle.external_sort.specs.Records.{Entry}
use Rattle.external_sort.specs.Sorting.{GoesOn}
use Rattle.tree_node.specs.Nodes.{Binding}
use Rattle.tree_node.specs.declared.limits.TheConstants.{ENTRY_LIMIT}
use Rattle.entry_sort.specs.internal.Once.{added, key_after, once_from}
use Rattle.entry_sort.proofs.OnceLemmas.{once_some}
use Rattle.entry_sort.proofs.give.give_sorted.Goals as goal

pub returns-in_err-give_current-in-Ok-true-clause-many :
    goal.returns-in_err-give_current-in-Ok-true-clause-many
returns-in_err-give_current-in-Ok-true-clause-many g c is_true given gives e =
    let (left, has, same) = c.records.invariant.left is_true given gives in
    let test : c.in-Ok-true.field-0 ≡ true = search rules in
    let (x, more, is, at, has_more) = subst (λ (b : Bool). GoesOn g.S.RunStore.runs b c.next.new.self left) test (c.in-Ok-true.ensures.next is_true left has) in
    let (few, new) = c.in_err-give_current-in-Ok-true.ensures.many x at (search rules) in
    let taken : List Binding = g.E.EntrySink.taken c.records.sink c.args.tree in
    let some : 1 ≤ length (once_from c.records.last left) = subst (λ (es : List Entry). 1 ≤ length (once_from c.records.last es)) (sym is) (once_some c.records.last x more new) in
    omega (arith, few, some, ap length same, length-append taken (once_from c.records.last left))

pub returns-in-Ok-false-clause-taken : goal.returns-in-Ok-false-clause-taken
returns-in-Ok-false-clause-taken g c is_true given gives =
    let (left, has, same) = c.records.invariant.left is_true given gives in
    let test : c.in-Ok-false.field-0 ≡ false = search rules in
    let none : left ≡ [] = subst (λ (b : Bool). GoesOn g.S.RunStore.runs b c.next.new.self left) test (c.in-Ok-false.ensures.next is_true left has) in
    let taken : List Binding = g.E.EntrySink.taken c.records.sink c.args.tree in
    sym (append-nil taken) ∙ ap (λ (es : List Entry). taken ++ once_from c.records.last es) (sym none) ∙ same

pub records-preserved : goal.records-preserved
records-preserved g c = record {
  same = g.met.E.EntrySink.chained _ _ _ c.records.invariant.same c.in_ok-give_current-in-Ok-true.ensures.same;
  others = λ other differs. c.in_ok-give_current-in-Ok-true.ensures.others other differs ∙ c.records.invariant.others other differs;
  left = λ is_true given gives.
      let (left, has, same) = c.records.invariant.left is_true given gives in
      let test : c.in-Ok-true.field-0 ≡ true = search rules in
      let (x, more, is, at, has_more) = subst (λ (b : Bool). GoesOn g.S.RunStore.runs b c.next.new.self left) test (c.in-Ok-true.ensures.next is_true left has) in
      let taken : List Binding = g.E.EntrySink.taken c.records.sink c.args.tree in
      let last : Option (List ℕ) = c.records.last in
      let after : Option (List ℕ) = c.give_current.new.last in
      let gained = c.in_ok-give_current-in-Ok-true.ensures.taken x at in
      let key : after ≡ key_after last x.key = c.in_ok-give_current-in-Ok-true.ensures.key x at in (
        more,
        has_more,
        ap (λ (bs : List Binding). bs ++ once_from after more) gained
            ∙ ap (λ (k : Option (List ℕ)). (taken ++ added last x) ++ once_from k more) key
            ∙ append_assoc taken (added last x) (once_from (key_after last x.key) more)
            ∙ ap (λ (es : List Entry). taken ++ once_from last es) (sym is)
            ∙ same,
      );
}

pub returns-in_err-give_current-in-Ok-true-clause-device :
    goal.returns-in_err-give_current-in-Ok-true-clause-device
returns-in_err-give_current-in-Ok-true-clause-device g c refuses is_true sinks given gives e =
    let (left, has, same) = c.records.invariant.left is_true given gives in
    let test : c.in-Ok-true.field-0 ≡ true = search rules in
    let (x, more, is, at, has_more) = subst (λ (b : Bool). GoesOn g.S.RunStore.runs b c.next.new.self left) test (c.in-Ok-true.ensures.next is_true left has) in
    c.in_err-give_current-in-Ok-true.ensures.device sinks x at (search rules)

pub returns-in-Err-clause-device : goal.returns-in-Err-clause-device
returns-in-Err-clause-device g c refuses is_true sinks given gives e =
    let (left, has, same) = c.records.invariant.left is_true given gives in
    c.in-Err.ensures.device refuses is_true left has (ap Err (c.sink_fault.ensures.device (let told = e in cc)))
