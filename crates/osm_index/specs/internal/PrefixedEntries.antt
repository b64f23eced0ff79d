-- The entries that are sorted beside numbers of their keys.
use Rattle.std.specs.Prelude.{◌≡◌, ◌≢◌, ◌≤◌, ◌<◌, ℕ, List, [], ◌∷◌, drop, length, map, slice_index_or}
use Rattle.tree_node.specs.Nodes.{AreBytes}
use Rattle.tree_node.specs.declared.item.Item.{Item}
use Rattle.osm_index.specs.declared.prefixed_entry.PrefixedEntry.{PrefixedEntry}
use Rattle.osm_index.specs.internal.Prefixes.{prefix_number}

abbrev pub items_of : List PrefixedEntry → List Item
items_of prefixed = map (λ entry. entry.item) prefixed

-- the numbers by which entries compare,
abbrev pub numbers_of : PrefixedEntry → List ℕ
numbers_of entry = entry.high ∷ entry.low ∷ []

-- and the key after them
abbrev pub numbers_and_key : PrefixedEntry → List ℕ
numbers_and_key entry = entry.high ∷ entry.low ∷ entry.item.key.now

-- these are the numbers of the first sixteen bytes
pub record StartsWith (high low : ℕ) (bytes : List ℕ) : Type 0 where
  pub first : high ≡ prefix_number bytes
  pub next : low ≡ prefix_number (drop 8 bytes)

-- the key of an entry starts with these numbers
abbrev pub HasStart : ℕ → ℕ → Item → Type 0
HasStart high low item = StartsWith high low item.key.now × AreBytes item.key.now

-- the entry stands beside the first sixteen bytes of its key,
abbrev pub IsByFirstBytes : PrefixedEntry → Type 0
IsByFirstBytes entry = HasStart entry.high entry.low entry.item

-- or beside those after them
abbrev pub IsByNextBytes : PrefixedEntry → Type 0
IsByNextBytes entry = StartsWith entry.high entry.low (drop 8 (drop 8 entry.item.key.now))

-- the first n entries have the numbers of the first one, and the next has not
pub record IsRun (entries : List PrefixedEntry) (n : ℕ) : Type 0 where
  pub some : 1 ≤ n
  pub within : n ≤ length entries
  pub same : (k : ℕ) (d : PrefixedEntry) → k < n → numbers_of (slice_index_or entries k d) ≡ numbers_of (slice_index_or entries 0 d)
  pub ends : (d : PrefixedEntry) → n < length entries → numbers_of (slice_index_or entries n d) ≢ numbers_of (slice_index_or entries 0 d)
