use Rattle.opl_codec.proofs.shared.OneChange.{one_change}
use Rattle.opl_codec.proofs.line.one_change.Goals as goal

pub returns : goal.returns
returns c = one_change
