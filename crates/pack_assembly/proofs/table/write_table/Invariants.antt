use Rattle.std.proofs.Common.{◌≡◌, ◌≤◌, ℕ, List, Option, drop, length, take, true}
use Rattle.std.specs.Io.KnownBytes.{Appends}
use Rattle.tree_node.specs.Nodes.{Node}
use Rattle.node_pack.specs.Packs.{table}
use Rattle.node_pack.specs.declared.place.Place.{Place}
use Rattle.pack_assembly.specs.internal.Order.{digests_of}
use Rattle.pack_assembly.specs.internal.Placing.{IsAmong}
use Rattle.pack_assembly.proofs.table.write_table.Given as goal

-- the places so far are written
abbrev pub invariant-loop : goal.invariant-loop
invariant-loop g l =
    (g.L.NodeLevels.nodes l.levels ≡ g.L.NodeLevels.nodes l.initial.levels) × (g.L.NodeLevels.unread l.levels ≡ g.L.NodeLevels.unread l.initial.levels)
    × (g.L.NodeLevels.is_true ≡ true → (place_of : List ℕ → Option Place) (nodes : List Node)
    → IsAmong place_of (g.L.NodeLevels.unmeasured l.initial.levels l.row.tree l.row.level) l.initial.at nodes → l.count ≤ length nodes
    → Appends (g.W.Write.contents l.initial.writer) (g.W.Write.contents l.writer) (table place_of (digests_of (take l.counter nodes)))
    × IsAmong place_of (g.L.NodeLevels.unmeasured l.levels l.row.tree l.row.level) l.at (drop l.counter nodes))
