use Rattle.ql_syntax.proofs.shared.FormatLemmas.{one_format}
use Rattle.ql_syntax.proofs.laws.one_format.Goals as goal

pub returns : goal.returns
returns c = one_format
