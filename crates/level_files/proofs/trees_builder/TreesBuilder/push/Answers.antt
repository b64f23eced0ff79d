use Rattle.tree_node.specs.Nodes.{Binding}
use Rattle.tree_node.specs.declared.tree.Tree.TheVariants.{Objects, Tags, Cells, Backs}
use Rattle.level_files.proofs.FaultLemmas.{on_ok}
use Rattle.level_files.proofs.BuilderLemmas.{has_more_backs, has_more_cells, has_more_objects, has_more_tags, none_told}
use Rattle.level_files.proofs.trees_builder.TreesBuilder.push.Goals as goal

pub returns-in-Some-clause-rising : goal.returns-in-Some-clause-rising
returns-in-Some-clause-rising g c = λ shape entries has. let none = none_told c.args.self.now shape entries has in let told = c.in-Some.ensures in absurd (cc)

pub returns-in-Some-clause-long : goal.returns-in-Some-clause-long
returns-in-Some-clause-long g c = λ shape entries has. let none = none_told c.args.self.now shape entries has in let told = c.in-Some.ensures in absurd (cc)

pub returns-in-Some-clause-many : goal.returns-in-Some-clause-many
returns-in-Some-clause-many g c = λ shape entries has. let none = none_told c.args.self.now shape entries has in let told = c.in-Some.ensures in absurd (cc)

pub returns-in-Objects-clause-taken : goal.returns-in-Objects-clause-taken
returns-in-Objects-clause-taken g c = λ shape entries has.
    let entry : Binding = record { key = c.args.key.now; value = c.args.value.now } in
    rw c.in-Objects.is (on_ok c.push.result (λ takes. has_more_objects c.args.self.now shape entries entry c.push.new.self has takes) (c.push.ensures.taken shape Objects (entries Objects) (has Objects)))

pub returns-in-Objects-clause-rising : goal.returns-in-Objects-clause-rising
returns-in-Objects-clause-rising g c = λ shape entries has. rw c.in-Objects.is (c.push.ensures.rising shape Objects (entries Objects) (has Objects))

pub returns-in-Objects-clause-long : goal.returns-in-Objects-clause-long
returns-in-Objects-clause-long g c = λ shape entries has. rw c.in-Objects.is (c.push.ensures.long shape Objects (entries Objects) (has Objects))

pub returns-in-Objects-clause-many : goal.returns-in-Objects-clause-many
returns-in-Objects-clause-many g c = λ shape entries has. rw c.in-Objects.is (c.push.ensures.many shape Objects (entries Objects) (has Objects))

pub returns-in-Tags-clause-taken : goal.returns-in-Tags-clause-taken
returns-in-Tags-clause-taken g c = λ shape entries has.
    let entry : Binding = record { key = c.args.key.now; value = c.args.value.now } in
    rw c.in-Tags.is (on_ok c.push-in-Tags.result (λ takes. has_more_tags c.args.self.now shape entries entry c.push-in-Tags.new.self has takes) (c.push-in-Tags.ensures.taken shape Tags (entries Tags) (has Tags)))

pub returns-in-Tags-clause-rising : goal.returns-in-Tags-clause-rising
returns-in-Tags-clause-rising g c = λ shape entries has. rw c.in-Tags.is (c.push-in-Tags.ensures.rising shape Tags (entries Tags) (has Tags))

pub returns-in-Tags-clause-long : goal.returns-in-Tags-clause-long
returns-in-Tags-clause-long g c = λ shape entries has. rw c.in-Tags.is (c.push-in-Tags.ensures.long shape Tags (entries Tags) (has Tags))

pub returns-in-Tags-clause-many : goal.returns-in-Tags-clause-many
returns-in-Tags-clause-many g c = λ shape entries has. rw c.in-Tags.is (c.push-in-Tags.ensures.many shape Tags (entries Tags) (has Tags))

pub returns-in-Cells-clause-taken : goal.returns-in-Cells-clause-taken
returns-in-Cells-clause-taken g c = λ shape entries has.
    let entry : Binding = record { key = c.args.key.now; value = c.args.value.now } in
    rw c.in-Cells.is (on_ok c.push-in-Cells.result (λ takes. has_more_cells c.args.self.now shape entries entry c.push-in-Cells.new.self has takes) (c.push-in-Cells.ensures.taken shape Cells (entries Cells) (has Cells)))

pub returns-in-Cells-clause-rising : goal.returns-in-Cells-clause-rising
returns-in-Cells-clause-rising g c = λ shape entries has. rw c.in-Cells.is (c.push-in-Cells.ensures.rising shape Cells (entries Cells) (has Cells))

pub returns-in-Cells-clause-long : goal.returns-in-Cells-clause-long
returns-in-Cells-clause-long g c = λ shape entries has. rw c.in-Cells.is (c.push-in-Cells.ensures.long shape Cells (entries Cells) (has Cells))

pub returns-in-Cells-clause-many : goal.returns-in-Cells-clause-many
returns-in-Cells-clause-many g c = λ shape entries has. rw c.in-Cells.is (c.push-in-Cells.ensures.many shape Cells (entries Cells) (has Cells))

pub returns-in-Backs-clause-taken : goal.returns-in-Backs-clause-taken
returns-in-Backs-clause-taken g c = λ shape entries has.
    let entry : Binding = record { key = c.args.key.now; value = c.args.value.now } in
    rw c.in-Backs.is (on_ok c.push-in-Backs.result (λ takes. has_more_backs c.args.self.now shape entries entry c.push-in-Backs.new.self has takes) (c.push-in-Backs.ensures.taken shape Backs (entries Backs) (has Backs)))

pub returns-in-Backs-clause-rising : goal.returns-in-Backs-clause-rising
returns-in-Backs-clause-rising g c = λ shape entries has. rw c.in-Backs.is (c.push-in-Backs.ensures.rising shape Backs (entries Backs) (has Backs))

pub returns-in-Backs-clause-long : goal.returns-in-Backs-clause-long
returns-in-Backs-clause-long g c = λ shape entries has. rw c.in-Backs.is (c.push-in-Backs.ensures.long shape Backs (entries Backs) (has Backs))

pub returns-in-Backs-clause-many : goal.returns-in-Backs-clause-many
returns-in-Backs-clause-many g c = λ shape entries has. rw c.in-Backs.is (c.push-in-Backs.ensures.many shape Backs (entries Backs) (has Backs))
