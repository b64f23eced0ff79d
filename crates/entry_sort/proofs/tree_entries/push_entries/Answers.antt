use Rattle.std.proofs.Common.{◌≡◌, List, ◌++◌, map, sym, subst}
use Rattle.external_sort.specs.Records.{Entry}
use Rattle.external_sort.specs.Sorting.{Holds}
use Rattle.osm_keys.specs.Entries.{AreEntriesOf}
use Rattle.osm_keys.specs.Grains.{Whole}
use Rattle.tree_node.specs.NodeRefs.{bindings_of as bindings_in}
use Rattle.tree_node.specs.declared.item.Item.{Item}
use Rattle.entry_sort.specs.internal.Once.{record_of}
use Rattle.entry_sort.proofs.PushLemmas.{entries_short, joined, on_ok}
use Rattle.entry_sort.proofs.tree_entries.push_entries.Goals as goal

pub returns-clause-held : goal.returns-clause-held
returns-clause-held g c =
    let items = c.deref.result.now in
    let members = c.in_ok-entries.ensures.members c.in_ok-list.ensures.keyed in
    let of_list = c.in_ok-list.ensures.members in
    let are : AreEntriesOf Whole c.args.set.now c.args.tree (bindings_in items) =
    subst (λ (xs : List Item). AreEntriesOf Whole c.args.set.now c.args.tree (bindings_in xs)) (sym c.deref.ensures.value)
    (record { rising = c.in_ok-entries.ensures.rising; members = λ b. ((λ h. (of_list b).0 ((members b).0 h)), (λ h. (members b).1 ((of_list b).1 h))) }) in
    on_ok c.push_all.result
    (λ held objects h. record {
      records = h.records ++ map record_of items;
      held = held h.records h.held;
      members = joined objects c.args.set.now c.args.tree h.records items h.members are;
    })
    c.push_all.ensures.held

pub returns-clause-short : goal.returns-clause-short
returns-clause-short g c =
    let items = c.deref.result.now in
    let members = c.in_ok-entries.ensures.members c.in_ok-list.ensures.keyed in
    let of_list = c.in_ok-list.ensures.members in
    let are : AreEntriesOf Whole c.args.set.now c.args.tree (bindings_in items) =
    subst (λ (xs : List Item). AreEntriesOf Whole c.args.set.now c.args.tree (bindings_in xs)) (sym c.deref.ensures.value)
    (record { rising = c.in_ok-entries.ensures.rising; members = λ b. ((λ h. (of_list b).0 ((members b).0 h)), (λ h. (members b).1 ((of_list b).1 h))) }) in
    c.push_all.ensures.short (entries_short c.args.set.now c.as_slice-set.ensures.set c.args.tree items are)
