use Rattle.opl_codec.proofs.StoppedFiles.{one_list}
use Rattle.opl_codec.proofs.load.one_change_list.Goals as goal

pub returns : goal.returns
returns c = one_list
