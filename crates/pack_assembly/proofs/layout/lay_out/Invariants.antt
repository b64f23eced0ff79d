use Rattle.std.proofs.Common.{◌≡◌, ◌≤◌, ◌^◌, take, true}
use Rattle.osm_keys.specs.Publications.{IsPublication, Publication}
use Rattle.pack_assembly.specs.internal.Order.{AreNodesOf, kepts_in}
use Rattle.pack_assembly.proofs.LayoutLemmas.{AreLaid}
use Rattle.pack_assembly.proofs.layout.lay_out.Given as goal

-- the rows so far are laid out
abbrev pub invariant-loop-row : goal.invariant-loop-row
invariant-loop-row g l =
    (g.L.NodeLevels.nodes l.levels ≡ g.L.NodeLevels.nodes l.initial.levels) × (l.at ≤ 2 ^ 48)
    × (g.L.NodeLevels.is_true ≡ true → (p : Publication) → IsPublication p → AreNodesOf p (g.L.NodeLevels.nodes l.initial.levels)
    → AreLaid (kepts_in p) l.fn.first (take l.row-index l.rows) l.placed.items l.at)
