use Rattle.std.proofs.Common.{◌≡◌, take, true}
use Rattle.std.specs.Io.KnownBytes.{Appends}
use Rattle.osm_keys.specs.Publications.{Publication}
use Rattle.pack_assembly.specs.internal.Placing.{IsReady, rows_bytes}
use Rattle.pack_assembly.proofs.pack.write_rows.Given as goal

-- the rows so far are written
abbrev pub invariant-loop-placed : goal.invariant-loop-placed
invariant-loop-placed g l =
    (g.L.NodeLevels.nodes l.levels ≡ g.L.NodeLevels.nodes l.initial.levels)
    × (g.L.NodeLevels.is_true ≡ true → (p : Publication) → IsReady p (g.L.NodeLevels.nodes l.initial.levels) l.rows
    → Appends (g.W.Write.contents l.initial.writer) (g.W.Write.contents l.writer) (rows_bytes p (take l.placed-index l.rows)))
