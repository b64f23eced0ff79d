use Rattle.ql_meaning.proofs.HavingMeaning.{has_meaning_by}
use Rattle.ql_meaning.proofs.laws.has_meaning_by.Goals as goal

pub returns : goal.returns
returns c = has_meaning_by
