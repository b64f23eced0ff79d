use Rattle.mirror_reply.proofs.shared.SpelledLemmas.{reply-no_fault}
use Rattle.mirror_reply.proofs.laws.reply_or_fault.Goals as goal

pub returns : goal.returns
returns c = reply-no_fault
