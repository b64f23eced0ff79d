use Rattle.std.proofs.Common.{◌-◌}
use Rattle.tree_stream.proofs.add.+add.Given as goal

-- no node is above level 30
abbrev pub decreases-add : goal.decreases-add
decreases-add g l = 30 - l.at
