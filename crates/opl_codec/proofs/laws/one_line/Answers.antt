use Rattle.opl_codec.proofs.shared.OneLine.{one_line}
use Rattle.opl_codec.proofs.laws.one_line.Goals as goal

pub returns : goal.returns
returns c = one_line
