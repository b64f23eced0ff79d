use Rattle.std.proofs.Common.{◌≡◌, None}
use Rattle.tree_build.specs.Shapes.{shape_of}
use Rattle.level_files.specs.Built.{HasEntries, fault_told}
use Rattle.pack_build.specs.Taken.{taken_by}
use Rattle.pack_build.proofs.BuildLemmas.{are_trees, published, unspent}
use Rattle.pack_build.proofs.build.finish_sorted.Goals as goal

pub returns-in-Ok-clause-built : goal.returns-in-Ok-clause-built
returns-in-Ok-clause-built g c = λ is_true p shape sorted.
    let taken = taken_by c.args.sink.2 c.args.sink.3 c.args.sink.4 c.args.sink.5 in
    let none = unspent (fault_told c.into_builder.result) c.finish.result c.in-Ok.is c.finish.ensures.spent in
    let has = c.into_builder.ensures none in
    let kind = shape_of c.args.sink.1 in
    c.write_trees.ensures.built is_true p (published p c.args.edition kind taken shape sorted c.into_builder.result has) sorted.edition_is
    (are_trees p c.args.edition kind taken shape sorted c.in-Ok.trees (c.in-Ok.ensures.nodes kind taken has) (c.in-Ok.ensures.tops kind taken has) (c.in-Ok.ensures.heights kind taken has))

pub returns-in-Ok-clause-refused : goal.returns-in-Ok-clause-refused
returns-in-Ok-clause-refused g c = λ is_true p shape sorted.
    let taken = taken_by c.args.sink.2 c.args.sink.3 c.args.sink.4 c.args.sink.5 in
    let none = unspent (fault_told c.into_builder.result) c.finish.result c.in-Ok.is c.finish.ensures.spent in
    let has = c.into_builder.ensures none in
    let kind = shape_of c.args.sink.1 in
    c.write_trees.ensures.refused is_true p (published p c.args.edition kind taken shape sorted c.into_builder.result has) sorted.edition_is
    (are_trees p c.args.edition kind taken shape sorted c.in-Ok.trees (c.in-Ok.ensures.nodes kind taken has) (c.in-Ok.ensures.tops kind taken has) (c.in-Ok.ensures.heights kind taken has))
