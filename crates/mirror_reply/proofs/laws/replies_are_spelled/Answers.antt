use Rattle.mirror_reply.proofs.shared.SpelledLemmas.{reply-iff}
use Rattle.mirror_reply.proofs.laws.replies_are_spelled.Goals as goal

pub returns : goal.returns
returns c = reply-iff
