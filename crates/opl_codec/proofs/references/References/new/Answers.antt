use Rattle.std.specs.List.{IsDistinct}
use Rattle.std.specs.List.Sorted.{IsStrictlySortedBy}
use Rattle.opl_codec.proofs.references.References.new.Goals as goal

pub returns : goal.returns
unfolding IsDistinct IsStrictlySortedBy
returns c = record { apart = tt; kept = tt }
