use Rattle.opl_codec.proofs.StoppedFiles.{one_set}
use Rattle.opl_codec.proofs.load.one_set.Goals as goal

pub returns : goal.returns
returns c = one_set
