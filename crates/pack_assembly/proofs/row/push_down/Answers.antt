use Rattle.std.proofs.Common.{◌≡◌, ◌<◌, ◌+◌, ◌-◌, ◌++◌, ◌∷◌, suc, ℕ, List, sym, ap, ◌∙◌, arith, append_assoc}
use Rattle.tree_node.specs.declared.tree.Tree.{Tree}
use Rattle.pack_assembly.specs.declared.row.Row.{Row}
use Rattle.pack_assembly.specs.internal.Order.{down}
use Rattle.pack_assembly.proofs.row.push_down.Goals as goal

one_down : (tree : Tree) (low count done : ℕ) → done < count → down tree low (count - done) ≡ record { tree = tree; level = low + (count - done - 1) } ∷ down tree low (count - (done + 1))
one_down tree low count done lt =
    let e : count - done ≡ suc (count - (done + 1)) = omega (arith, lt) in
    let f : count - (done + 1) ≡ count - done - 1 = omega (arith, lt) in
    ap (down tree low) e ∙ ap (λ (n : ℕ). record { tree = tree; level = low + n } ∷ down tree low (count - (done + 1))) f

pub loop-done-preserved : goal.loop-done-preserved
loop-done-preserved c =
    ap (λ (l : List Row). l ++ down c.args.tree c.args.low (c.saturating_sub-count.result - (c.loop-done.done + 1))) c.in_ok-push.ensures.items
    ∙ append_assoc c.loop-done.rows.items _ _
    ∙ ap (λ (l : List Row). c.loop-done.rows.items ++ l) (sym (one_down c.args.tree c.args.low c.saturating_sub-count.result c.loop-done.done c.loop-done-test.true))
    ∙ c.loop-done.invariant
