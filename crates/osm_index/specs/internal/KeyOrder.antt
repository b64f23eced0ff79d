-- What sorting entries by their keys makes of them.
use Rattle.std.specs.Prelude.{◌≡◌, ◌++◌, ℕ, List}
use Rattle.std.specs.List.{All, Contains}
use Rattle.std.specs.List.Sorted.{IsStrictlySortedBy}
use Rattle.tree_node.specs.Order.{order}
use Rattle.tree_node.specs.declared.item.Item.{Item}
use Rattle.osm_index.specs.declared.prefixed_entry.PrefixedEntry.{PrefixedEntry}
use Rattle.osm_index.specs.internal.PrefixedEntries.{HasStart}

-- the entries in the order of their keys, one for each key
pub record IsInOrder (old new : List Item) : Type 0 where
  pub rising : IsStrictlySortedBy (λ first second. order first.key.now second.key.now) new
  pub drawn : (x : Item) → Contains new x → Contains old x
  pub kept : (x : Item) → Contains old x → (y : Item) × Contains new y × (x.key.now ≡ y.key.now)

-- the keys of all entries have one start
abbrev pub HaveOneStart : List PrefixedEntry → Type 0
HaveOneStart run = (high low : ℕ) × All (λ entry. HasStart high low entry.item) run

-- the entries of this list were appended in their order
abbrev pub AppendsInOrder : List Item → List Item → List Item → Type 0
AppendsInOrder old before after = (new : List Item) × (after ≡ before ++ new) × IsInOrder old new
