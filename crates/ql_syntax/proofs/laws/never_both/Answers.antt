use Rattle.ql_syntax.proofs.shared.QueryLaws.{reads_or_not}
use Rattle.ql_syntax.proofs.laws.never_both.Goals as goal

pub returns : goal.returns
returns c = reads_or_not
