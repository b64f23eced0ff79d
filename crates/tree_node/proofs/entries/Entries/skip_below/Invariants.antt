use Rattle.std.proofs.Common.{◌≡◌}
use Rattle.tree_node.specs.Nodes.{Binding}
use Rattle.tree_node.specs.Skips.{from_key}
use Rattle.tree_node.proofs.entries.Entries.skip_below.Given as goal

-- what is found in those to come is what is found in all
abbrev pub invariant-loop-item : goal.invariant-loop-item
invariant-loop-item l = record {
  next : (goal.iterator-loop-item).can_next l.ahead;
  finite : (goal.iterator-loop-item).is_finite l.ahead;
  same : l.ahead ≡ l.found;
  from : from_key (λ (entry : Binding). entry.key) l.key l.ahead ≡ from_key (λ (entry : Binding). entry.key) l.key l.fn.self;
}
