use Rattle.std.proofs.Common.{◌∙◌, sym}
use Rattle.level_files.specs.internal.Given.{given_to}
use Rattle.level_files.proofs.TreeLemmas.{sound_after}
use Rattle.level_files.proofs.tree_writer.TreeWriter.push.Goals as goal

pub invariant_of-self : goal.invariant_of-self
invariant_of-self g c = λ none.
    let (shape, tree, entries, taken) = c.self.invariant c.in_default.is in
    sound_after given_to c.self.inside.stream c.push-result.new.self c.push-result.result shape tree entries _ taken
    (sym c.spending_fault-self-inside.ensures ∙ none) (c.push-result.ensures.taken shape tree entries taken) c.push-result.ensures.unchanged
