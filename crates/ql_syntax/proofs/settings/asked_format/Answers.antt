use Rattle.ql_syntax.specs.Formats.{Asked, Unread}
use Rattle.ql_syntax.proofs.shared.FormatLemmas.{asked_at_front}
use Rattle.ql_syntax.proofs.RuleLemmas.{read_of, stops_of}
use Rattle.ql_syntax.proofs.settings.asked_format.Goals as goal
use Rattle.std.proofs.Common.{refl}

pub returns-in-Ok-clause-front : goal.returns-in-Ok-clause-front
returns-in-Ok-clause-front c = Asked _ (read_of c.in-Ok.ensures)

pub returns-in-Err-clause-front : goal.returns-in-Err-clause-front
returns-in-Err-clause-front c = Unread _ _ (stops_of c.in-Err.ensures) refl

pub returns-in-Ok-clause-asked : goal.returns-in-Ok-clause-asked
returns-in-Ok-clause-asked c = asked_at_front _ _ (returns-in-Ok-clause-front c)

pub returns-in-Err-clause-asked : goal.returns-in-Err-clause-asked
returns-in-Err-clause-asked c = asked_at_front _ _ (returns-in-Err-clause-front c)
