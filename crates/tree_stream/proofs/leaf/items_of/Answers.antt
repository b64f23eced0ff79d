use Rattle.std.proofs.Common.{◌≡◌, ◌++◌, ◌∷◌, ◌+◌, ◌<◌, ◌≤◌, [], ℕ, List, append-nil, append_assoc, ap, arith, drop, get_or, length, sym, take, ◌∙◌}
use Rattle.std.proofs.lemmas.List.{drop_all, drop_more, map-append}
use Rattle.tree_node.specs.NodeRefs.{binding_of, bindings_of}
use Rattle.tree_node.specs.Nodes.{Binding}
use Rattle.tree_node.specs.declared.item.Item.{Item}
use Rattle.tree_stream.specs.declared.leaf.EntryLen.{EntryLen}
use Rattle.tree_stream.specs.internal.Holding.{cut_entries, entry_total}
use Rattle.tree_stream.proofs.leaf.items_of.Goals as goal

module _ (lens : List EntryLen) (i : ℕ) (rest : List ℕ) (d : EntryLen) (inside : i < length lens) where
  ahead : drop i lens ≡ get_or lens i d ∷ drop (i + 1) lens
  ahead = drop_more lens i d inside

  -- the next entry is in what is left
  room : entry_total (drop i lens) ≤ length rest → (get_or lens i d).key + (get_or lens i d).value + entry_total (drop (i + 1) lens) ≤ length rest
  room enough = omega (arith, enough, ap entry_total ahead)

  -- the next entry, as it was split off, and those to come
  one_more : (items new : List Item) (item : Item) (after left : List ℕ) → new ≡ items ++ item ∷ [] → item.key.now ≡ take (get_or lens i d).key rest → after ≡ drop (get_or lens i d).key rest
      → item.value.now ≡ take (get_or lens i d).value after → left ≡ drop (get_or lens i d).value after
      → bindings_of new ++ cut_entries (drop (i + 1) lens) left ≡ bindings_of items ++ cut_entries (drop i lens) rest
  one_more items new item after left pushed key behind value behind_both =
      let len = get_or lens i d in
      let next : Binding = record { key = take len.key rest; value = take len.value (drop len.key rest) } in
      let same : binding_of item ≡ next =
      ap (λ (x : List ℕ). record { key = x; value = item.value.now }) key
      ∙ ap (λ (x : List ℕ). record { key = take len.key rest; value = x }) (value ∙ ap (take len.value) behind) in
      let lent : bindings_of new ≡ bindings_of items ++ next ∷ [] = ap bindings_of pushed ∙ map-append binding_of items (item ∷ []) ∙ ap (λ (b : Binding). bindings_of items ++ b ∷ []) same in
      let rest_is : left ≡ drop len.value (drop len.key rest) = behind_both ∙ ap (drop len.value) behind in
      ap (λ (bs : List Binding). bs ++ cut_entries (drop (i + 1) lens) left) lent
      ∙ ap (λ (r : List ℕ). (bindings_of items ++ next ∷ []) ++ cut_entries (drop (i + 1) lens) r) rest_is
      ∙ append_assoc (bindings_of items) (next ∷ []) (cut_entries (drop (i + 1) lens) (drop len.value (drop len.key rest)))
      ∙ sym (ap (λ (ls : List EntryLen). bindings_of items ++ cut_entries ls rest) ahead)

pub split_at-requires : goal.split_at-requires
split_at-requires c = omega (arith, room c.args.lens.now c.loop-len.len-index c.loop-len.rest.now (record { key = 0; value = 0 }) c.loop-len-test.true c.loop-len.invariant.enough)

pub split_at-requires-in-loop-len : goal.split_at-requires-in-loop-len
split_at-requires-in-loop-len c =
    omega (arith, c.split_at.ensures.back_len, room c.args.lens.now c.loop-len.len-index c.loop-len.rest.now (record { key = 0; value = 0 }) c.loop-len-test.true c.loop-len.invariant.enough)

pub loop-len-preserved : goal.loop-len-preserved
loop-len-preserved c =
    let enough = room c.args.lens.now c.loop-len.len-index c.loop-len.rest.now (record { key = 0; value = 0 }) c.loop-len-test.true c.loop-len.invariant.enough in
    record {
      enough = omega (arith, enough, c.split_at.ensures.back_len, c.split_at-in-loop-len.ensures.back_len);
      whole = one_more c.args.lens.now c.loop-len.len-index c.loop-len.rest.now (record { key = 0; value = 0 }) c.loop-len-test.true c.loop-len.items.items c.push.new.self.items _
          c.split_at.result.1.now c.split_at-in-loop-len.result.1.now c.in_ok-push.ensures.items
          c.split_at.ensures.front c.split_at.ensures.back c.split_at-in-loop-len.ensures.front c.split_at-in-loop-len.ensures.back ∙ c.loop-len.invariant.whole;
    }

pub returns : goal.returns
returns c =
    sym (append-nil (bindings_of c.loop-len.items.items))
    ∙ sym (ap (λ (ls : List EntryLen). bindings_of c.loop-len.items.items ++ cut_entries ls c.loop-len.rest.now) (drop_all c.loop-len.len-index c.args.lens.now c.loop-len-test.false))
    ∙ c.loop-len.invariant.whole
