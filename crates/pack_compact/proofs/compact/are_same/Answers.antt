use Rattle.std.proofs.Common.{◌∙◌}
use Rattle.pack_compact.proofs.UnderLemmas.{tops_same}
use Rattle.pack_compact.proofs.compact.are_same.Goals as goal

pub returns : goal.returns
returns c = λ same. c.eq.ensures ∙ tops_same c.args.tops.now c.args.others.now c.told-tops c.told-others same
