-- Records as the entries of a tree, those with one key once.
-- Source: this project.
use Rattle.std.specs.Prelude.{ℕ, Bool, true, cond, List, [], ◌∷◌, ◌++◌, map, Option, Some, None}
use Rattle.std.specs.Ordering.{is_lt}
use Rattle.tree_node.specs.Nodes.{Binding}
use Rattle.tree_node.specs.Order.{order}
use Rattle.tree_node.specs.declared.item.Item.{Item}
use Rattle.external_sort.specs.Records.{Entry, entry}

-- the key is above the last one, where there is one
abbrev pub is_new : Option (List ℕ) → List ℕ → Bool
is_new None key = true
is_new (Some last) key = is_lt (order last key)

-- the last key after this one
abbrev pub key_after : Option (List ℕ) → List ℕ → Option (List ℕ)
key_after last key = cond (is_new last key) (Some key) last

-- the entry that a record is
abbrev pub binding_of : Entry → Binding
binding_of e = record { key = e.key; value = e.value }

abbrev pub bindings_of : List Entry → List Binding
bindings_of es = map binding_of es

-- the entry that a record adds after the last key
abbrev pub added : Option (List ℕ) → Entry → List Binding
added last e = cond (is_new last e.key) (binding_of e ∷ []) []

-- the entries that records, whose keys rise, add after the last key
abbrev pub once_from : Option (List ℕ) → List Entry → List Binding
once_from last [] = []
once_from last (e ∷ es) = added last e ++ once_from (key_after last e.key) es

-- the record that an entry is
abbrev pub record_of : Item → Entry
record_of item = entry item.key.now item.value.now
