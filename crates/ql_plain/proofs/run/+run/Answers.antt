use Rattle.std.proofs.Common.{◌≡◌, ℕ, List, ◌++◌, sym, ap, subst, ◌∙◌}
use Rattle.std.proofs.lemmas.List.{take_all}
use Rattle.osm_model.specs.declared.reference.Ref.{Ref}
use Rattle.ql_syntax.proofs.shared.StatementTrees.{union_is}
use Rattle.ql_syntax.specs.StatementViews.{filters_of, statement_of, statements_of}
use Rattle.ql_syntax.specs.Statements as tree
use Rattle.ql_syntax.specs.declared.filter.Filter.{Filter}
use Rattle.ql_syntax.specs.declared.statement.Stmt.{Stmt}
use Rattle.ref_sets.proofs.shared.Results.{on_ok_as}
use Rattle.ql_meaning.proofs.shared.Running.{after_next, minus_after}
use Rattle.ql_meaning.specs.Meanings.{After, AfterAll, given_by}
use Rattle.ref_sets.specs.Sets.{IsSetOf}
use Rattle.ref_sets.specs.NamedSets.{put, lists_of}
use Rattle.ql_meaning.specs.Values.{IsReached, IsRefOf, IsSelected}
use Rattle.ql_plain.proofs.run.+run.Goals as goal

pub run-returns-in_ok-refs-in-Select : goal.run-returns-in_ok-refs-in-Select
run-returns-in_ok-refs-in-Select t c =
    let env = lists_of c.args.sets.now.named.items in
    let refs = c.in_ok-refs-in-Select.refs in
    let so : IsSetOf refs (IsRefOf c.args.set.now (IsSelected c.args.set.now env c.in-Select.kind (filters_of c.in-Select.filters.items))) =
    subst (λ (filters : List Filter). IsSetOf refs (IsRefOf c.args.set.now (IsSelected c.args.set.now env c.in-Select.kind (filters_of filters)))) c.deref.ensures.value c.in_ok-refs-in-Select.ensures in
    on_ok_as c.write.result
    (λ written. subst (λ (s : Stmt). After c.args.set.now (statement_of s) env (lists_of c.write.new.self.named.items)) (sym c.in-Select.is)
    (refs, so, written ∙ ap (λ (name : List ℕ). put name refs env) c.as_bytes.ensures))
    c.write.ensures

pub run-returns-in_ok-refs-in-Recurse : goal.run-returns-in_ok-refs-in-Recurse
run-returns-in_ok-refs-in-Recurse t c =
    let env = lists_of c.args.sets.now.named.items in
    let refs = c.in_ok-refs-in-Recurse.refs in
    let so : IsSetOf refs (IsRefOf c.args.set.now (IsReached c.args.set.now c.in-Recurse.how (env c.in-Recurse.from))) =
    subst (λ (names : List Ref). IsSetOf refs (IsRefOf c.args.set.now (IsReached c.args.set.now c.in-Recurse.how names))) (c.get.ensures ∙ ap env c.as_bytes-in-Recurse.ensures) c.in_ok-refs-in-Recurse.ensures in
    on_ok_as c.write-in-Recurse.result
    (λ written. subst (λ (s : Stmt). After c.args.set.now (statement_of s) env (lists_of c.write-in-Recurse.new.self.named.items)) (sym c.in-Recurse.is)
    (refs, so, written ∙ ap (λ (name : List ℕ). put name refs env) c.as_bytes-in-Recurse-2.ensures))
    c.write-in-Recurse.ensures

pub run-returns-in_ok-given-in-Union : goal.run-returns-in_ok-given-in-Union
run-returns-in_ok-given-in-Union t c =
    let env = lists_of c.args.sets.now.named.items in
    let mid = lists_of c.run_all.new.sets.named.items in
    let given = c.in_ok-given-in-Union.given.items in
    let refs = c.from_refs-refs.result in
    let parts = c.in-Union.parts in
    let all : AfterAll c.args.set.now (statements_of parts.items) env mid given = subst (λ (ps : List Stmt). AfterAll c.args.set.now (statements_of ps) env mid given) c.deref-in-Union.ensures.value c.in_ok-given-in-Union.ensures in
    on_ok_as c.write-in-Union.result
    (λ written. subst (λ (s : tree.Statement). After c.args.set.now s env (lists_of c.write-in-Union.new.self.named.items)) (sym (ap statement_of c.in-Union.is ∙ union_is parts c.in-Union.into))
    (mid, given, all, (refs, c.from_refs-refs.ensures, written ∙ ap (λ (name : List ℕ). put name refs mid) c.as_bytes-in-Union.ensures)))
    c.write-in-Union.ensures

pub run-returns-in_ok-refs-in-Minus : goal.run-returns-in_ok-refs-in-Minus
run-returns-in_ok-refs-in-Minus t c =
    let env = lists_of c.args.sets.now.named.items in
    let mid = lists_of c.run.new.sets.named.items in
    let end = lists_of c.run-in-Minus.new.sets.named.items in
    let later = lists_of c.write-in-Minus.new.self.named.items in
    let refs = c.in_ok-refs-in-Minus.refs in
    let left = c.in-Minus.left.value in
    let right = c.in-Minus.right.value in
    let firsts = c.in_ok-first-in-Minus.first in
    let first_is : firsts ≡ given_by (statement_of left) mid =
    c.in_ok-first-in-Minus.ensures ∙ c.written_by.ensures ∙ ap (λ (s : Stmt). given_by (statement_of s) mid) c.deref-in-Minus-2.ensures in
    let second_is = c.written_by-in-Minus.ensures ∙ ap (λ (s : Stmt). given_by (statement_of s) end) c.deref-in-Minus-4.ensures in
    let one = subst (λ (s : Stmt). After c.args.set.now (statement_of s) env mid) c.deref-in-Minus.ensures c.in_ok-run-in-Minus.ensures in
    let other = subst (λ (s : Stmt). After c.args.set.now (statement_of s) mid end) c.deref-in-Minus-3.ensures c.in_ok-run-in-Minus-2.ensures in
    on_ok_as c.write-in-Minus.result
    (λ written. subst (λ (s : Stmt). After c.args.set.now (statement_of s) env later) (sym c.in-Minus.is)
    (minus_after c.args.set.now left right c.in-Minus.into env mid end later firsts _ refs one first_is other second_is c.in_ok-refs-in-Minus.ensures
    (written ∙ ap (λ (name : List ℕ). put name refs end) c.as_bytes-in-Minus.ensures)))
    c.write-in-Minus.ensures

pub run_all-loop-part-preserved : goal.run_all-loop-part-preserved
run_all-loop-part-preserved t c =
    after_next c.args.set.now c.args.parts.now c.loop-part.part-index c.part-item.result c.loop-part-test.true c.part-item.is
    (lists_of c.args.sets.now.named.items) (lists_of c.loop-part.sets.named.items) (lists_of c.run.new.sets.named.items) c.loop-part.given.items _ c.loop-part.invariant c.in_ok-run.ensures
    (c.in_ok-extend_from_slice.ensures.items ∙ ap (λ (zs : List Ref). c.loop-part.given.items ++ zs) (c.as_slice.ensures.value ∙ c.written_by.ensures))

pub run_all-returns : goal.run_all-returns
run_all-returns t c =
    subst (λ (parts : List Stmt). AfterAll c.args.set.now (statements_of parts) (lists_of c.args.sets.now.named.items) (lists_of c.loop-part.sets.named.items) c.loop-part.given.items)
    (take_all c.loop-part.part-index c.args.parts.now c.loop-part-test.false) c.loop-part.invariant
