use Rattle.std.proofs.Common.{◌≡◌, take, true}
use Rattle.std.specs.List.{flat_map}
use Rattle.external_sort.specs.Sorting.{Holds}
use Rattle.osm_keys.specs.Publications.{IsPublication, Publication}
use Rattle.pack_assembly.specs.Levels.{AreLevelsOf}
use Rattle.pack_assembly.specs.declared.row.Row.{Row}
use Rattle.pack_assembly.specs.internal.Order.{digests_of, nodes_in, rows_in}
use Rattle.pack_assembly.proofs.KeyLemmas.{IsPushed}
use Rattle.pack_assembly.proofs.pack.push_nodes.Given as goal

-- the digests of the rows so far are pushed
abbrev pub invariant-loop-row : goal.invariant-loop-row
invariant-loop-row g l =
    (g.L.NodeLevels.nodes l.levels ≡ g.L.NodeLevels.nodes l.initial.levels)
    × (g.L.NodeLevels.is_true ≡ true → (p : Publication) → IsPublication p → AreLevelsOf p l.fn.trees (g.L.NodeLevels.nodes l.initial.levels) → l.rows ≡ rows_in p
    → IsPushed (Holds g.S.RunStore.runs g.S.RunStore.in_hand l.initial.digests) (Holds g.S.RunStore.runs g.S.RunStore.in_hand l.digests)
    (flat_map (λ (row : Row). digests_of (nodes_in p row)) (take l.row-index l.rows)))
