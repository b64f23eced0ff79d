use Rattle.std.proofs.Common.{◌∙◌, ap, sym, subst, Err}
use Rattle.pack_build.specs.Faults.{fault_of_assembly}
use Rattle.pack_build.specs.declared.fault.BuildFault.{BuildFault}
use Rattle.pack_build.specs.Trees.{IsUnpacked}
use Rattle.pack_build.proofs.BuildLemmas.{are_levels, unpacked}
use Rattle.pack_build.proofs.build.write_trees.Goals as goal

pub returns-in-Ok-clause-built : goal.returns-in-Ok-clause-built
returns-in-Ok-clause-built g c = λ is_true p published edition trees.
    let levels = are_levels p c.args.edition c.args.trees edition trees in
    let given = c.in-Ok.ensures.written is_true is_true c.new-digests.ensures p published levels in
    (published, given.0, given.1)

pub returns-clause-refused : goal.returns-clause-refused
returns-clause-refused g c = λ is_true p published edition trees.
    let levels = are_levels p c.args.edition c.args.trees edition trees in
    subst (λ (f : BuildFault). IsUnpacked p f) (sym c.from.ensures) (unpacked p c.in-Err.fault published
    (λ is. c.in-Err.ensures.clash (ap Err is) is_true is_true c.new-digests.ensures p published levels)
    (λ is. c.in-Err.ensures.too_long (ap Err is) is_true is_true c.new-digests.ensures p published levels))

pub returns-clause-untouched : goal.returns-clause-untouched
returns-clause-untouched g c = λ differs other. c.in-Err.ensures.untouched
    (λ is. differs (c.from.ensures ∙ ap fault_of_assembly is))
    (λ is. other (c.from.ensures ∙ ap fault_of_assembly is))
