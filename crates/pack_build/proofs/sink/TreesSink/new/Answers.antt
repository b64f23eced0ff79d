use Rattle.tree_build.specs.Shapes.{shape_of}
use Rattle.pack_build.proofs.SinkLemmas.{none_by, none_taken}
use Rattle.pack_build.proofs.sink.TreesSink.new.Goals as goal

pub invariant_of-result : goal.invariant_of-result
invariant_of-result g c = λ none. none_taken c.new.result (shape_of c.args.shape) c.new-2.result c.new-3.result c.new-4.result c.new-5.result c.new-2.ensures c.new-3.ensures c.new-4.ensures c.new-5.ensures c.new.ensures

pub returns-clause-none : goal.returns-clause-none
returns-clause-none g c = none_by c.new-2.result c.new-3.result c.new-4.result c.new-5.result c.new-2.ensures c.new-3.ensures c.new-4.ensures c.new-5.ensures
