use Rattle.http_messages.proofs.HeadLemmas.{head_of-sound, head_of-complete}
use Rattle.http_messages.proofs.laws.head_is_the_grammars.Goals as goal

pub returns : goal.returns
returns c = λ bytes h. (head_of-sound bytes h, head_of-complete bytes h)
