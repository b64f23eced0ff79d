use Rattle.tree_walk.proofs.MeetLemmas.{lo_is_in}
use Rattle.tree_walk.proofs.laws.empty_law.Goals as goal

pub returns : goal.returns
returns c = λ range key is. lo_is_in range key is
