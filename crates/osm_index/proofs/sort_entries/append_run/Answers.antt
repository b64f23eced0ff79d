use Rattle.std.proofs.Common.{rules, ◌∙◌, ◌++◌, ap}
use Rattle.std.proofs.lemmas.Cmp.{nat_list_cmp_total}
use Rattle.std.proofs.lemmas.Fn.{dedup_same}
use Rattle.std.proofs.lemmas.List.Sorted.{All-permutation, answers_always, ranks_by}
use Rattle.std.specs.Ordering.{is_lt}
use Rattle.std.specs.List.{All}
use Rattle.std.proofs.lemmas.Result.{on_ok_weaker}
use Rattle.tree_node.specs.Order.{order}
use Rattle.osm_index.specs.internal.PrefixedEntries.{HasStart, IsByNextBytes, items_of, numbers_and_key}
use Rattle.osm_index.proofs.KeyOrderLemmas.{alone_of, in_order, one_key, sorted_by_keys, starts_of_items}
use Rattle.osm_index.proofs.sort_entries.append_run.Goals as goal

pub returns-then-run-eq1 : goal.returns-then-run-eq1
returns-then-run-eq1 c = λ starts.
    on_ok_weaker c.append_items.result (λ appended. (_, appended, alone_of c.args.run.now c.if-run-eq1.true)) c.append_items.ensures

pub returns : goal.returns
returns c = λ starts.
    let run = c.args.run.now in
    let seconds = c.fill_by_next_bytes.new.buffer.items in
    let sorted = c.sort_unstable_by.new.self.items in
    let same = c.in_ok-fill_by_next_bytes.ensures.items in
    let p = c.sort_unstable_by.ensures.permutation in
    let by_numbers = c.sort_unstable_by.ensures.sorted (λ x y. is_lt (order (numbers_and_key x) (numbers_and_key y))) (ranks_by nat_list_cmp_total numbers_and_key) (answers_always _ _ _ (λ f a r g called. search rules)) in
    let all_start : All (λ entry. HasStart starts.0 starts.1 entry.item) sorted = All-permutation (λ entry. HasStart starts.0 starts.1 entry.item) seconds sorted p (starts_of_items starts.0 starts.1 run seconds same starts.2) in
    let all_by_next_bytes : All IsByNextBytes sorted = All-permutation IsByNextBytes seconds sorted p c.in_ok-fill_by_next_bytes.ensures.second in
    let by_keys = sorted_by_keys starts.0 starts.1 sorted all_start all_by_next_bytes by_numbers in
    let left = dedup_same _ one_key _ (λ x y b f x' y' called. search rules) _ _ c.dedup_by.ensures.filtered in
    let ordered = in_order run seconds sorted same p by_keys in
    on_ok_weaker c.append_items-2.result (λ appended. (_, appended ∙ ap (λ prefixed. c.args.entries.now.items ++ items_of prefixed) (c.deref.ensures.value ∙ left), ordered)) c.append_items-2.ensures
