use Rattle.std.proofs.Common.{rules, ◌≡◌, ◌∙◌, List, sym, subst}
use Rattle.std.specs.List.{All}
use Rattle.std.specs.List.Sorted.{IsSortedByKey}
use Rattle.std.specs.Ordering.{is_lt}
use Rattle.std.proofs.lemmas.Cmp.{nat_list_cmp_total}
use Rattle.std.proofs.lemmas.List.Sorted.{All-permutation, answers_always, ranks_by}
use Rattle.std.proofs.lemmas.Result.{on_ok_weaker}
use Rattle.tree_node.specs.Order.{order}
use Rattle.osm_index.specs.declared.prefixed_entry.PrefixedEntry.{PrefixedEntry}
use Rattle.osm_index.specs.internal.PrefixedEntries.{IsByFirstBytes, items_of, numbers_of}
use Rattle.osm_index.specs.internal.KeyOrder.{AppendsInOrder}
use Rattle.osm_index.proofs.KeyOrderLemmas.{of_all}
use Rattle.osm_index.proofs.sort_entries.sort_entries.Goals as goal

pub append_runs-requires : goal.append_runs-requires
append_runs-requires c =
    let sorted = c.sort_unstable_by.ensures.sorted (λ x y. is_lt (order (numbers_of x) (numbers_of y))) (ranks_by nat_list_cmp_total numbers_of) (answers_always _ _ _ (λ f a r g called. search rules)) in
    subst (λ (entries : List PrefixedEntry). IsSortedByKey numbers_of order entries) (sym c.deref-2.ensures.value) sorted

pub returns : goal.returns
returns c =
    let old = c.args.entries.now.items in
    let prefixed = c.in_ok-prefixed.prefixed.items in
    let sorted = c.sort_unstable_by.new.self.items in
    let new = c.append_runs.new.entries.items in
    let p = c.sort_unstable_by.ensures.permutation in
    let same : items_of prefixed ≡ old = c.in_ok-prefixed.ensures.items ∙ c.deref.ensures.value in
    let first : All IsByFirstBytes sorted = All-permutation IsByFirstBytes prefixed sorted p c.in_ok-prefixed.ensures.first in
    let appends = c.append_runs.ensures (subst (All IsByFirstBytes) (sym c.deref-2.ensures.value) first) in
    on_ok_weaker c.append_runs.result (λ (appended : AppendsInOrder (items_of c.deref-2.result.now) c.clear.new.self.items new).
    of_all old new prefixed sorted same p
    (subst (λ (before : List _). AppendsInOrder (items_of sorted) before new) c.clear.ensures.items
    (subst (λ (entries : List PrefixedEntry). AppendsInOrder (items_of entries) c.clear.new.self.items new) c.deref-2.ensures.value appended)))
    appends
