use Rattle.std.proofs.Common.{take}
use Rattle.light_index.proofs.lines.line_nodes.Given as goal
use Rattle.light_index.specs.LightLines.{AreLinesOf}

abbrev pub invariant-loop-object : goal.invariant-loop-object
invariant-loop-object l = AreLinesOf (take l.object-index l.objects) l.lines.items
