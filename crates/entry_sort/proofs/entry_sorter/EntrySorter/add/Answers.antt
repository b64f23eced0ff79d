use Rattle.std.proofs.Common.{◌++◌}
use Rattle.entry_sort.specs.Holding.{HoldsTree, sorter_of}
use Rattle.entry_sort.specs.declared.entry_sorter.EntrySorter.{EntrySorter}
use Rattle.entry_sort.proofs.GiveLemmas.{by_tree}
use Rattle.entry_sort.proofs.PushLemmas.{on_ok}
use Rattle.tree_node.specs.declared.tree.Tree.{Tree}
use Rattle.tree_node.specs.declared.tree.Tree.TheVariants.{Objects, Tags, Cells, Backs}
use Rattle.entry_sort.proofs.entry_sorter.EntrySorter.add.Goals as goal

pub returns-clause-held : goal.returns-clause-held
returns-clause-held g c =
    let s : EntrySorter _ = record { objects = c.push_entries.new.sorter; tags = c.push_entries-2.new.sorter; cells = c.push_entries-3.new.sorter; backs = c.push_entries-4.new.sorter; object_count = c.saturating_add-self.result } in
    on_ok c.push_entries-4.result
    (λ held objects h. by_tree (λ (tree : Tree). HoldsTree g.S.RunStore.runs g.S.RunStore.in_hand (sorter_of s tree) (objects ++ c.args.set.now) tree)
    (c.in_ok-push_entries.ensures.held objects (h Objects))
    (c.in_ok-push_entries-2.ensures.held objects (h Tags))
    (c.in_ok-push_entries-3.ensures.held objects (h Cells))
    (held objects (h Backs)))
    c.push_entries-4.ensures.held
