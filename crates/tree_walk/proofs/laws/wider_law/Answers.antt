use Rattle.tree_walk.proofs.MeetLemmas.{meets_wider}
use Rattle.tree_walk.proofs.laws.wider_law.Goals as goal

pub returns : goal.returns
returns c = λ range left outer greatest most meets no_higher wide. meets_wider range left outer greatest most meets no_higher wide
