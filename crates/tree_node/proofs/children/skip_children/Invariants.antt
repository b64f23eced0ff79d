use Rattle.std.proofs.Common.{◌≡◌, ◌+◌, ◌-◌, ◌*◌, ◌≤◌, ◌^◌, [], None, sum_by}
use Rattle.std.specs.Option.{option_copied}
use Rattle.tree_node.specs.Nodes.{Link, greatests_of}
use Rattle.tree_node.specs.internal.Reading.{links_after}
use Rattle.tree_node.specs.Fronts.{links_at_front}
use Rattle.tree_node.proofs.HeldLemmas.{key_or_none, last_from}
use Rattle.tree_node.proofs.children.skip_children.Given as goal

-- what is left to skip leads where all of it does, to the same last key and the same sum
abbrev pub invariant-loop : goal.invariant-loop
invariant-loop l = record {
  after : links_after (l.count - l.counter) (option_copied l.low) l.rest ≡ links_after l.count None l.bytes;
  last : last_from (key_or_none (option_copied l.low)) (greatests_of (links_at_front (l.count - l.counter) l.rest)) ≡ last_from [] (greatests_of (links_at_front l.count l.bytes));
  below : sum_by (λ (link : Link). link.number) (links_at_front (l.count - l.counter) l.rest) + l.number ≡ sum_by (λ (link : Link). link.number) (links_at_front l.count l.bytes);
  small : l.number ≤ l.counter * (2 ^ 40);
}
