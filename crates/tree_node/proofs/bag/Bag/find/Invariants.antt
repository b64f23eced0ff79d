use Rattle.std.proofs.Common.{ℕ, ◌-◌, ◌<◌, ◌≤◌, length}
use Rattle.std.specs.List.{HoldsAt}
use Rattle.tree_node.specs.Digests.{digest}
use Rattle.tree_node.specs.Order.{IsBelow}
use Rattle.tree_node.specs.Parts.{node_of}
use Rattle.tree_node.proofs.bag.Bag.find.Given as goal

abbrev pub invariant-loop-low : goal.invariant-loop-low
invariant-loop-low l = record {
  in_range : l.high ≤ length l.self.parts.items;
  below : (k : ℕ) → k < l.low → HoldsAt (λ p. IsBelow (digest (node_of p)) l.key.0) l.self.parts.items k;
  above : (k : ℕ) → l.high ≤ k → k < length l.self.parts.items → HoldsAt (λ p. IsBelow l.key.0 (digest (node_of p))) l.self.parts.items k;
}

abbrev pub decreases-loop-low : goal.decreases-loop-low
decreases-loop-low l = l.high - l.low
