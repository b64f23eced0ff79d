use Rattle.std.proofs.Common.{◌∙◌, ap, sym, subst, ℕ, List, Option}
use Rattle.std.specs.Prelude.{IfSome}
use Rattle.tree_build.specs.Shapes.{shape_of}
use Rattle.pack_build.specs.Building.{Explains}
use Rattle.pack_build.specs.Taken.{taken_by}
use Rattle.pack_build.specs.declared.fault.BuildFault.{BuildFault}
use Rattle.pack_build.proofs.BuildLemmas.{built, explained, unsorted}
use Rattle.pack_build.proofs.build.build_pack.Goals as goal

pub returns-in-Ok-clause-built : goal.returns-in-Ok-clause-built
returns-in-Ok-clause-built g c = λ is_true.
    let sink = c.sort_entries.new.sink in
    let shape = ap shape_of (sym c.in-Ok.ensures.same ∙ c.new-sink.ensures.shape) ∙ c.shape_of.ensures in
    built _ c.args.edition (taken_by sink.2 sink.3 sink.4 sink.5) _ _ c.finish_sorted.result
    (c.in-Ok.ensures.taken is_true c.new-sink.ensures.none)
    (λ p sorted. c.finish_sorted.ensures.built is_true p shape sorted)

pub returns-in-Ok-clause-refused : goal.returns-in-Ok-clause-refused
returns-in-Ok-clause-refused g c = λ is_true.
    let sink = c.sort_entries.new.sink in
    let shape = ap shape_of (sym c.in-Ok.ensures.same ∙ c.new-sink.ensures.shape) ∙ c.shape_of.ensures in
    explained _ c.args.edition (taken_by sink.2 sink.3 sink.4 sink.5) c.finish_sorted.result
    (c.in-Ok.ensures.taken is_true c.new-sink.ensures.none)
    (λ p sorted. c.finish_sorted.ensures.refused is_true p shape sorted)

pub returns-in-Err-clause-refused : goal.returns-in-Err-clause-refused
returns-in-Err-clause-refused g c = λ is_true.
    subst (λ (f : BuildFault). IfSome (g.R.Read.remaining c.args.input.now) (λ file. Explains file c.args.edition f)) (sym c.from.ensures)
    (unsorted _ c.args.edition c.in-Err.fault (c.in-Err.ensures.refused is_true c.new-sink.ensures.none))
