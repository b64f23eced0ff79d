use Rattle.std.proofs.Common.{◌≡◌, ◌∙◌, ◌<◌, sym, ap, subst, Err, List, ◌++◌, None, length}
use Rattle.osm_keys.specs.Entries.{AreEntriesOf}
use Rattle.osm_keys.specs.Grains.{Whole}
use Rattle.tree_node.specs.Nodes.{Binding}
use Rattle.tree_node.specs.declared.limits.TheConstants.{ENTRY_LIMIT}
use Rattle.entry_sort.specs.internal.Once.{once_from}
use Rattle.entry_sort.proofs.KeyedLemmas.{are_entries}
use Rattle.entry_sort.proofs.PushLemmas.{on_ok}
use Rattle.entry_sort.proofs.give.give_tree.Goals as goal

pub returns-in-Ok-clause-taken : goal.returns-in-Ok-clause-taken
returns-in-Ok-clause-taken g c is_true set is_set h empty =
    let (given, order, rises, gives) = c.in-Ok.ensures.given is_true h.records h.held in
    let none = c.begin.ensures.untaken c.args.tree ∙ empty in
    let are = are_entries set is_set c.args.tree h.records given h.members order rises in
    on_ok c.give_sorted.result
    (λ same. subst (AreEntriesOf Whole set c.args.tree) (sym (same ∙ ap (λ (bs : List Binding). bs ++ once_from None given) none)) are)
    (c.give_sorted.ensures.taken is_true given gives)

pub returns-in-Ok-clause-many : goal.returns-in-Ok-clause-many
returns-in-Ok-clause-many g c is_true set is_set h empty e =
    let (given, order, rises, gives) = c.in-Ok.ensures.given is_true h.records h.held in
    let none = c.begin.ensures.untaken c.args.tree ∙ empty in
    let many = c.give_sorted.ensures.many is_true given gives e in (
      c.args.tree,
      once_from None given,
      are_entries set is_set c.args.tree h.records given h.members order rises,
      subst (λ (bs : List Binding). ENTRY_LIMIT < length (bs ++ once_from None given)) none many,
    )

pub returns-in-Ok-clause-device : goal.returns-in-Ok-clause-device
returns-in-Ok-clause-device g c refuses is_true sinks set h =
    let (given, order, rises, gives) = c.in-Ok.ensures.given is_true h.records h.held in
    c.give_sorted.ensures.device refuses is_true sinks given gives

pub returns-in-Err-clause-device : goal.returns-in-Err-clause-device
returns-in-Err-clause-device g c refuses is_true sinks set h e =
    c.in-Err.ensures.device refuses is_true h.records h.held (ap Err (c.sink_fault.ensures.device (let told = e in cc)))
