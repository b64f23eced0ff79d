use Rattle.std.proofs.Common.{◌≡◌, None}
use Rattle.std.specs.Option.{option_copied}
use Rattle.tree_node.specs.Nodes.{Link}
use Rattle.tree_node.specs.Skips.{from_key, key_before}
use Rattle.tree_node.proofs.children.Children.skip_below.Given as goal

-- what is found in those to come is what is found in all
abbrev pub invariant-loop-child : goal.invariant-loop-child
invariant-loop-child l = record {
  next : (goal.iterator-loop-child).can_next l.ahead;
  finite : (goal.iterator-loop-child).is_finite l.ahead;
  same : l.ahead ≡ l.found;
  from : from_key (λ (link : Link). link.greatest) l.key l.ahead ≡ from_key (λ (link : Link). link.greatest) l.key l.fn.self;
  before : key_before (λ (link : Link). link.greatest) l.key (option_copied l.before) l.ahead ≡ key_before (λ (link : Link). link.greatest) l.key None l.fn.self;
}
