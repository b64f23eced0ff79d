use Rattle.tree_walk.proofs.shared.FoundLemmas.{prefix}
use Rattle.tree_walk.proofs.laws.prefix_law.Goals as goal

pub returns : goal.returns
returns c = λ front key. prefix front key
