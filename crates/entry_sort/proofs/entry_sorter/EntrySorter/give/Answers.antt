use Rattle.std.proofs.Common.{rules, ◌∙◌}
use Rattle.tree_node.specs.declared.tree.Tree.TheVariants.{Objects, Tags, Cells, Backs}
use Rattle.entry_sort.proofs.GiveLemmas.{all_given, backs_cells, backs_objects, backs_tags, cells_objects, cells_tags, tags_objects}
use Rattle.entry_sort.proofs.PushLemmas.{on_both}
use Rattle.entry_sort.proofs.entry_sorter.EntrySorter.give.Goals as goal

pub returns-in_err-give_tree-clause-many : goal.returns-in_err-give_tree-clause-many
returns-in_err-give_tree-clause-many g c is_true empty set is_set h e =
    c.in_err-give_tree.ensures.many is_true set is_set (h Objects) (empty Objects) (search rules)

pub returns-in_err-give_tree-2-clause-many : goal.returns-in_err-give_tree-2-clause-many
returns-in_err-give_tree-2-clause-many g c is_true empty set is_set h e =
    c.in_err-give_tree-2.ensures.many is_true set is_set (h Tags) (c.in_ok-give_tree.ensures.others Tags tags_objects ∙ empty Tags) (search rules)

pub returns-in_err-give_tree-3-clause-many : goal.returns-in_err-give_tree-3-clause-many
returns-in_err-give_tree-3-clause-many g c is_true empty set is_set h e =
    c.in_err-give_tree-3.ensures.many is_true set is_set (h Cells)
    (c.in_ok-give_tree-2.ensures.others Cells cells_tags ∙ c.in_ok-give_tree.ensures.others Cells cells_objects ∙ empty Cells) (search rules)

pub returns-clause-many : goal.returns-clause-many
returns-clause-many g c is_true empty set is_set h e =
    c.give_tree-4.ensures.many is_true set is_set (h Backs)
    (c.in_ok-give_tree-3.ensures.others Backs backs_cells ∙ c.in_ok-give_tree-2.ensures.others Backs backs_tags ∙ c.in_ok-give_tree.ensures.others Backs backs_objects ∙ empty Backs) e

pub returns-clause-taken : goal.returns-clause-taken
returns-clause-taken g c is_true empty set is_set h =
    let first = c.in_ok-give_tree.ensures in
    let second = c.in_ok-give_tree-2.ensures in
    let third = c.in_ok-give_tree-3.ensures in
    let objects = first.taken is_true set is_set (h Objects) (empty Objects) in
    let tags = second.taken is_true set is_set (h Tags) (first.others Tags tags_objects ∙ empty Tags) in
    let cells = third.taken is_true set is_set (h Cells) (second.others Cells cells_tags ∙ first.others Cells cells_objects ∙ empty Cells) in
    let none = third.others Backs backs_cells ∙ second.others Backs backs_tags ∙ first.others Backs backs_objects ∙ empty Backs in
    on_both c.give_tree-4.result
    (λ others backs. all_given (g.E.EntrySink.taken c.args.sink.now) (g.E.EntrySink.taken c.give_tree.new.sink) (g.E.EntrySink.taken c.give_tree-2.new.sink) (g.E.EntrySink.taken c.give_tree-3.new.sink)
    (g.E.EntrySink.taken c.give_tree-4.new.sink) first.others second.others third.others others set objects tags cells backs)
    c.give_tree-4.ensures.others
    (c.give_tree-4.ensures.taken is_true set is_set (h Backs) none)

pub returns-in_err-give_tree-clause-device : goal.returns-in_err-give_tree-clause-device
returns-in_err-give_tree-clause-device g c refuses is_true sinks set h e =
    c.in_err-give_tree.ensures.device refuses is_true sinks set (h Objects) (search rules)

pub returns-in_err-give_tree-2-clause-device : goal.returns-in_err-give_tree-2-clause-device
returns-in_err-give_tree-2-clause-device g c refuses is_true sinks set h e =
    c.in_err-give_tree-2.ensures.device refuses is_true sinks set (h Tags) (search rules)

pub returns-in_err-give_tree-3-clause-device : goal.returns-in_err-give_tree-3-clause-device
returns-in_err-give_tree-3-clause-device g c refuses is_true sinks set h e =
    c.in_err-give_tree-3.ensures.device refuses is_true sinks set (h Cells) (search rules)

pub returns-clause-device : goal.returns-clause-device
returns-clause-device g c refuses is_true sinks set h = c.give_tree-4.ensures.device refuses is_true sinks set (h Backs)
