use Rattle.tree_walk.proofs.shared.FoundLemmas.{point}
use Rattle.tree_walk.proofs.laws.point_law.Goals as goal

pub returns : goal.returns
returns c = λ key other. point key other
