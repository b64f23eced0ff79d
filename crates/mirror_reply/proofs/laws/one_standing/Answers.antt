use Rattle.mirror_reply.proofs.StandingLemmas.{stands-unique}
use Rattle.mirror_reply.proofs.laws.one_standing.Goals as goal

pub returns : goal.returns
returns c = stands-unique
