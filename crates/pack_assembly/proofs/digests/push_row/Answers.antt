use Rattle.std.proofs.Common.{◌≡◌, ◌<◌, ◌+◌, ◌-◌, ◌++◌, ◌∷◌, [], suc, ℕ, List, sym, ap, subst, ◌∙◌, arith, length}
use Rattle.std.specs.List.{flat_map}
use Rattle.external_sort.specs.Sorting.{Holds}
use Rattle.osm_keys.specs.Publications.{tree_in}
use Rattle.tree_node.specs.declared.tree.Tree.{Tree}
use Rattle.node_pack.specs.Packs.{child_digests}
use Rattle.pack_assembly.specs.internal.Keys.{key_entries}
use Rattle.pack_assembly.specs.internal.Order.{digests_of, nodes_in}
use Rattle.pack_assembly.proofs.CountLemmas.{nodes_few}
use Rattle.pack_assembly.proofs.LevelLemmas.{on_ok}
use Rattle.pack_assembly.proofs.ReadyLemmas.{level_joined, row_are, row_of_level, top_digest}
use Rattle.pack_assembly.proofs.RowLemmas.{row, rows_low}
use Rattle.pack_assembly.proofs.digests.push_row.Goals as goal

pub returns-then-row-saturating_sub-clause-held : goal.returns-then-row-saturating_sub-clause-held
returns-then-row-saturating_sub-clause-held g c = λ true p is are among.
    on_ok c.push_digest.result c.push_digest.ensures.held (λ pushes records held.
    let low = rows_low (λ (t : Tree). length (tree_in p t)) c.args.row among in
    let height : c.height.result ≡ length (tree_in p c.args.row.tree) = c.height.ensures ∙ are.heights c.args.row.tree in
    let level : length (tree_in p c.args.row.tree) - 1 ≡ c.args.row.level = omega (arith, low, height, c.saturating_sub.ensures, c.if-row-saturating_sub.true) in
    let keys : c.top.result.0 ∷ [] ≡ digests_of (nodes_in p c.args.row) =
    ap (λ (k : List ℕ). k ∷ []) (c.top.ensures ∙ are.tops c.args.row.tree) ∙ sym (top_digest p is c.args.row.tree) ∙ ap (λ (l : ℕ). digests_of (nodes_in p (row c.args.row.tree l))) level in
    subst (λ (ks : List (List ℕ)). Holds g.S.RunStore.runs g.S.RunStore.in_hand c.push_digest.new.digests (records ++ key_entries ks)) keys (pushes records held))

pub returns-clause-held : goal.returns-clause-held
returns-clause-held g c = λ true p is are among.
    on_ok c.push_below.result (c.push_below.ensures.held true (nodes_in p (row c.args.row.tree (c.args.row.level + 1))) (row_are p is (row c.args.row.tree (c.args.row.level + 1)))
    (are.levels c.args.row.tree (c.args.row.level + 1))) (λ pushes records held.
    let height : c.height.result ≡ length (tree_in p c.args.row.tree) = c.height.ensures ∙ are.heights c.args.row.tree in
    let low : suc c.args.row.level < length (tree_in p c.args.row.tree) = omega (arith, height, c.saturating_sub.ensures, c.if-row-saturating_sub.false) in
    let next : c.args.row.level + 1 ≡ suc c.args.row.level = omega arith in
    let keys : flat_map child_digests (nodes_in p (row c.args.row.tree (c.args.row.level + 1))) ≡ digests_of (nodes_in p c.args.row) =
    ap (λ (l : ℕ). flat_map child_digests (nodes_in p (row c.args.row.tree l))) next ∙ level_joined p is c.args.row.tree c.args.row.level low in
    subst (λ (ks : List (List ℕ)). Holds g.S.RunStore.runs g.S.RunStore.in_hand c.push_below.new.digests (records ++ key_entries ks)) keys (pushes records held))

pub returns-clause-device : goal.returns-clause-device
returns-clause-device g c = λ true refuses sorts p is are.
    let above = row c.args.row.tree (c.args.row.level + 1) in
    c.push_below.ensures.device true refuses sorts (nodes_in p above) (row_of_level p is above) (omega arith) (are.levels c.args.row.tree (c.args.row.level + 1)) (nodes_few p is above)
