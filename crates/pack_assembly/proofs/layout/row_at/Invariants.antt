use Rattle.std.proofs.Common.{◌≡◌, ◌<◌, ℕ, get_or}
use Rattle.tree_node.specs.declared.tree.Tree.TheVariants.{Objects}
use Rattle.pack_assembly.specs.declared.layout.PlacedRow.{PlacedRow}
use Rattle.pack_assembly.proofs.layout.row_at.Given as goal

-- none of the rows so far is the one that is looked for
abbrev pub invariant-loop-placed : goal.invariant-loop-placed
invariant-loop-placed l =
    (q : PlacedRow) (k : ℕ) → k < l.placed-index → get_or l.rows k q ≡ q → q.row.tree ≡ l.tree → q.row.level ≡ l.level → ⊥
