use Rattle.std.proofs.Common.{None}
use Rattle.tree_walk.specs.Walks.{IsEntryIn}
use Rattle.tree_walk.proofs.shared.FoundLemmas.{among_those, those_among, those_rise, those_unique}
use Rattle.tree_walk.proofs.laws.found_law.Goals as goal

pub returns-clause-among : goal.returns-clause-among
returns-clause-among c = λ range entries found are entry. (
  (λ is. those_among (IsEntryIn range) entries found are entry is),
  (λ is. among_those (IsEntryIn range) entries found are entry is.0 is.1),
)

pub returns-clause-rising : goal.returns-clause-rising
returns-clause-rising c = λ range entries found are rising. those_rise (IsEntryIn range) None entries found are rising

pub returns-clause-unique : goal.returns-clause-unique
returns-clause-unique c = λ range entries found others are are_too. those_unique (IsEntryIn range) entries found others are are_too
