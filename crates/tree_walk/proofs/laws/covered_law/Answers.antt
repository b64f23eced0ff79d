use Rattle.tree_walk.proofs.MeetLemmas.{covered_is_in}
use Rattle.tree_walk.proofs.laws.covered_law.Goals as goal

pub returns : goal.returns
returns c = λ range left greatest key is above below. covered_is_in range left greatest key is above below
