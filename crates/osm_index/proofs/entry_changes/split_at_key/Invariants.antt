use Rattle.std.proofs.Common.{◌≡◌, take}
use Rattle.std.specs.List.{AllByRecursion}
use Rattle.tree_node.specs.Order.{IsBelow}
use Rattle.tree_node.specs.declared.item.Item.{Item}
use Rattle.osm_index.proofs.entry_changes.split_at_key.Given as goal

-- the entries so far are below the key
abbrev pub invariant-loop-entry : goal.invariant-loop-entry
invariant-loop-entry l = record {
  count : l.at ≡ l.entry-index;
  below : AllByRecursion (λ (entry : Item). IsBelow entry.key.now l.key) (take l.at l.entries);
}
