use Rattle.tree_walk.proofs.OpenChoices.{covered_narrower}
use Rattle.tree_walk.proofs.laws.inside_law.Goals as goal

pub returns : goal.returns
returns c = λ range left outer greatest last is no_higher above below. covered_narrower range left outer greatest last is no_higher above below
