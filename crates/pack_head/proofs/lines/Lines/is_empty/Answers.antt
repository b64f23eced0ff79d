use Rattle.pack_head.proofs.LeftLemmas.{none_left}
use Rattle.pack_head.proofs.lines.Lines.is_empty.Goals as goal

pub returns : goal.returns
returns c = none_left c.args.self.now.rest c.is_none.result c.is_none.ensures
