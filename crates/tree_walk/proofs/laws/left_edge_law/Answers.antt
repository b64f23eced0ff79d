use Rattle.std.proofs.Common.{None}
use Rattle.tree_walk.proofs.MeetLemmas.{low_from_meets, meets_at_edge}
use Rattle.tree_walk.proofs.laws.left_edge_law.Goals as goal

pub returns : goal.returns
returns c = λ range greatest bytes lo_in.
    ((λ meets. low_from_meets range None greatest meets), (λ low. meets_at_edge range greatest bytes lo_in low))
