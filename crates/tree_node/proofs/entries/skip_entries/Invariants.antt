use Rattle.std.proofs.Common.{◌≡◌, ◌-◌, [], None}
use Rattle.std.specs.Option.{option_copied}
use Rattle.tree_node.specs.Nodes.{keys_of}
use Rattle.tree_node.specs.internal.Reading.{entries_after}
use Rattle.tree_node.specs.Fronts.{entries_at_front}
use Rattle.tree_node.proofs.HeldLemmas.{key_or_none, last_from}
use Rattle.tree_node.proofs.entries.skip_entries.Given as goal

-- what is left to skip leads where all of it does, and to the same last key
abbrev pub invariant-loop : goal.invariant-loop
invariant-loop l = record {
  after : entries_after (l.count - l.counter) (option_copied l.low) l.rest ≡ entries_after l.count None l.bytes;
  last : last_from (key_or_none (option_copied l.low)) (keys_of (entries_at_front (l.count - l.counter) l.rest)) ≡ last_from [] (keys_of (entries_at_front l.count l.bytes));
}
