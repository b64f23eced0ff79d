use Rattle.std.proofs.Common.{◌≡◌, ◌+◌, ◌-◌, ℕ, List, Option, length, true}
use Rattle.std.specs.Io.KnownBytes.{Appends}
use Rattle.tree_node.specs.Nodes.{Node}
use Rattle.node_pack.specs.declared.place.Place.{Place}
use Rattle.pack_assembly.specs.internal.Order.{spellings}
use Rattle.pack_assembly.specs.internal.Placing.{AreParentsOf}
use Rattle.pack_assembly.proofs.WriteLemmas.{IsBeingWritten}
use Rattle.pack_assembly.proofs.level.write_level.Given as goal

-- the records so far are written
abbrev pub invariant-loop : goal.invariant-loop
invariant-loop g l =
    (g.L.NodeLevels.nodes l.levels ≡ g.L.NodeLevels.nodes l.initial.levels)
    × (g.L.NodeLevels.is_true ≡ true → (place_of : List ℕ → Option Place) (nodes lower : List Node)
    → g.L.NodeLevels.unread l.initial.levels l.row.tree l.row.level ≡ spellings nodes
    → AreParentsOf place_of (g.L.NodeLevels.unmeasured l.initial.levels l.row.tree (l.row.level - 1)) l.row l.fn.below nodes lower
    → IsBeingWritten place_of l.row nodes (g.L.NodeLevels.unread l.levels l.row.tree l.row.level) (g.L.NodeLevels.unmeasured l.levels l.row.tree (l.row.level - 1)) l.at
    (Appends (g.W.Write.contents l.initial.writer) (g.W.Write.contents l.writer)))
    × (g.L.NodeLevels.is_true ≡ true → length (g.L.NodeLevels.unread l.levels l.row.tree l.row.level) + l.counter ≡ length (g.L.NodeLevels.unread l.initial.levels l.row.tree l.row.level))
