use Rattle.std.proofs.Common.{◌≡◌, ℕ, ◌<◌, true, get_or, false}
use Rattle.tree_node.proofs.bag.Bag.all_used.Given as goal

-- each part so far has its mark
abbrev pub invariant-loop-mark : goal.invariant-loop-mark
invariant-loop-mark l = (k : ℕ) → k < l.mark-index → get_or l.self.marks.items k false ≡ true
