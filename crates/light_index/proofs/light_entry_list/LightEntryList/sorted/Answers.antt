use Rattle.std.proofs.Common.{◌≡◌, ◌∙◌}
use Rattle.tree_node.specs.NodeRefs.{bindings_of}
use Rattle.light_index.proofs.LightSortedLemmas.{members_else, members_then, rises_as_given, rises_sorted}
use Rattle.light_index.proofs.light_entry_list.LightEntryList.sorted.Goals as goal
use Rattle.light_index.proofs.light_entry_list.LightEntryList.sorted.Goals.{then-not-keys_rise, else-not-keys_rise}

pub returns-clause-rising : goal.returns-clause-rising
returns-clause-rising c =
    elim c.if-not-keys_rise.branch [
      | then-not-keys_rise w ↦ rw (w.entries-is, w.drop_repeats.ensures) (rises_sorted _ w.sort_by_keys.ensures.sorted)
      | else-not-keys_rise w ↦ rw (w.entries-is) (rises_as_given _ (rw c.deref-3.ensures.value at (c.keys_rise.ensures w.if-not-keys_rise.false)))
    ]

pub returns-clause-members : goal.returns-clause-members
returns-clause-members c = λ keyed b.
    let same : bindings_of c.in_ok-entries.entries.items ≡ c.args.self.now = (rw (c.deref.ensures.value, c.deref-2.ensures.value) at c.in_ok-entries.ensures) ∙ c.self.view_is in
    elim c.if-not-keys_rise.branch [
      | then-not-keys_rise w ↦ rw (w.entries-is, w.drop_repeats.ensures) (members_then c.in_ok-entries.entries.items w.sort_by_keys.new.entries.items c.args.self.now same w.sort_by_keys.ensures.permutation keyed b)
      | else-not-keys_rise w ↦ rw (w.entries-is) (members_else c.in_ok-entries.entries.items c.args.self.now same b)
    ]
