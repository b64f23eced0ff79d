use Rattle.mirror_reply.proofs.HonestLemmas.{honest-reply}
use Rattle.mirror_reply.proofs.laws.honest_responses_are_replies.Goals as goal

pub returns : goal.returns
returns c = honest-reply
