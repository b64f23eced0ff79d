use Rattle.tree_walk.proofs.MeetLemmas.{entered_from_key}
use Rattle.tree_walk.proofs.laws.entered_law.Goals as goal

pub returns : goal.returns
returns c = λ range child key above below is. entered_from_key range child key above below is
