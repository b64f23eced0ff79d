use Rattle.std.proofs.Common.{◌≡◌, ◌∙◌}
use Rattle.tree_node.specs.NodeRefs.{bindings_of}
use Rattle.osm_index.proofs.SortedLemmas.{members_else, members_then, rises_as_given, rises_in_order}
use Rattle.osm_index.proofs.entry_list.EntryList.sorted.Goals as goal
use Rattle.osm_index.proofs.entry_list.EntryList.sorted.Goals.{then-not-keys_rise+in_ok-sort_entries as then-sorted, else-not-keys_rise}

pub returns-clause-rising : goal.returns-clause-rising
returns-clause-rising c =
    elim c.if-not-keys_rise.branch [
      | then-sorted w ↦ rw (w.entries-is) (rises_in_order _ _ w.in_ok-sort_entries.ensures)
      | else-not-keys_rise w ↦ rw (w.entries-is) (rises_as_given _ (rw c.deref-3.ensures.value at (c.keys_rise.ensures w.if-not-keys_rise.false)))
    ]

pub returns-clause-members : goal.returns-clause-members
returns-clause-members c = λ keyed b.
    let same : bindings_of c.in_ok-entries.entries.items ≡ c.args.self.now = (rw (c.deref.ensures.value, c.deref-2.ensures.value) at c.in_ok-entries.ensures) ∙ c.self.view_is in
    elim c.if-not-keys_rise.branch [
      | then-sorted w ↦ rw (w.entries-is) (members_then c.in_ok-entries.entries.items w.sort_entries.new.entries.items c.args.self.now same w.in_ok-sort_entries.ensures keyed b)
      | else-not-keys_rise w ↦ rw (w.entries-is) (members_else c.in_ok-entries.entries.items c.args.self.now same b)
    ]
