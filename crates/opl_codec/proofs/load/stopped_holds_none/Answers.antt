use Rattle.opl_codec.proofs.StoppedFiles.{stopped_by_reader}
use Rattle.opl_codec.proofs.load.stopped_holds_none.Goals as goal

pub returns : goal.returns
returns c = λ file left load objects stops not_reader holds. not_reader (stopped_by_reader file left load objects stops holds)
