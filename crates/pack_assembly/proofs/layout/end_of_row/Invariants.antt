use Rattle.std.proofs.Common.{◌≡◌, ◌+◌, ◌≤◌, ◌^◌, List, length, true}
use Rattle.std.specs.List.{AllByRecursion}
use Rattle.tree_node.specs.Nodes.{IsNode, Node}
use Rattle.pack_assembly.specs.internal.Order.{spellings}
use Rattle.pack_assembly.proofs.LayoutLemmas.{IsMeasured}
use Rattle.pack_assembly.proofs.layout.end_of_row.Given as goal

-- some nodes were measured, and the others are left
abbrev pub invariant-loop : goal.invariant-loop
invariant-loop g l =
    (g.L.NodeLevels.nodes l.levels ≡ g.L.NodeLevels.nodes l.initial.levels) × (l.at ≤ 2 ^ 48)
    × (g.L.NodeLevels.is_true ≡ true → (nodes : List Node) → AllByRecursion IsNode nodes → g.L.NodeLevels.unmeasured l.initial.levels l.row.tree l.row.level ≡ spellings nodes
    → IsMeasured nodes (g.L.NodeLevels.unmeasured l.levels l.row.tree l.row.level) l.fn.start l.at)
    × (g.L.NodeLevels.is_true ≡ true → length (g.L.NodeLevels.unmeasured l.levels l.row.tree l.row.level) + l.counter ≡ length (g.L.NodeLevels.unmeasured l.initial.levels l.row.tree l.row.level))
