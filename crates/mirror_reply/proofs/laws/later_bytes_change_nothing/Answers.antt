use Rattle.mirror_reply.proofs.shared.SpelledLemmas.{fault-append, reply-append}
use Rattle.mirror_reply.proofs.laws.later_bytes_change_nothing.Goals as goal

pub returns-clause-reply : goal.returns-clause-reply
returns-clause-reply c = reply-append

pub returns-clause-fault : goal.returns-clause-fault
returns-clause-fault c = fault-append
