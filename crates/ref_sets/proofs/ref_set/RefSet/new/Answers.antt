use Rattle.ref_sets.proofs.shared.Keeping.{rising_nothing}
use Rattle.ref_sets.proofs.ref_set.RefSet.new.Goals as goal

pub invariant_of-result : goal.invariant_of-result
invariant_of-result c = rw c.new.ensures.items rising_nothing
