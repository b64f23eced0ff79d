use Rattle.mirror_reply.proofs.shared.SpelledLemmas.{reply-unique}
use Rattle.mirror_reply.proofs.laws.one_reply.Goals as goal

pub returns : goal.returns
returns c = reply-unique
